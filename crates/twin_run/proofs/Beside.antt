-- Two stores on one volume that have no name in common: what a call on the one leaves of the other.
use Rattle.std.proofs.Common.{◌≡◌, ◌≢◌, ℕ, List, [], ◌∷◌, sym}
use Rattle.volume_base.specs.Moments.{present}
use Rattle.volume_base.specs.Names.{Names, EachOf, IsNoneOf, AreApart, NamesCall, joined}
use Rattle.volume_base.specs.Volume.{State}
use Rattle.volume_base.proofs.NameLemmas.{each_of_first, each_of_second, stay_first, stay_second, durable_after}
use Rattle.log_model.specs.Machine as machine
use Rattle.list_machine.specs.Operation.{Operation}
use Rattle.twin_batches.specs.Kind.{Kind, kept_of}
use Rattle.twin_batches.specs.StateOf.{IsStateOf}
use Rattle.twin_batches.specs.declared.numbers.Numbers.{Numbers}
use Rattle.compact_db.specs.DbView.{seen_log}
use Rattle.twin_databases.specs.CompactKind.{CompactView, compact_kind}
use Rattle.twin_databases.specs.FullKind.{FullView, full_kind}

-- ---- names apart

each_so : (P Q : List ℕ → Type 0) (names : List (List ℕ)) → ((name : List ℕ) → P name → Q name) → EachOf P names
    → EachOf Q names
each_so P Q [] so each = tt
each_so P Q (name ∷ names) so each = (so name each.0, each_so P Q names so each.1)

swapped : (names others : List (List ℕ)) → EachOf (λ other. IsNoneOf other names) others
    → EachOf (λ name. IsNoneOf name others) names
swapped [] others each = tt
swapped (name ∷ names) others each = (
  each_so (λ other. IsNoneOf other (name ∷ names)) (λ other. name ≢ other) others (λ other none same. none.0 (sym same))
      each,
  swapped names others (each_so (λ other. IsNoneOf other (name ∷ names)) (λ other. IsNoneOf other names) others
      (λ other none. none.1) each),
)

pub apart_swapped : (names others : Names) → AreApart names others → AreApart others names
apart_swapped names others are = record {
  logs = swapped names.logs others.logs are.logs;
  maps = swapped names.maps others.maps are.maps;
}

-- ---- a call on the one is a call on both

pub call_first : (names others : Names) (a b : State) → NamesCall names a b → NamesCall (joined names others) a b
call_first names others a b call = record {
  others = record {
    logs = λ other none. call.others.logs other (each_of_first (λ n. other ≢ n) names.logs others.logs none);
    maps = λ other none. call.others.maps other (each_of_first (λ n. other ≢ n) names.maps others.maps none);
  };
  images = stay_first names others a b call.images;
}

pub call_second : (names others : Names) (a b : State) → NamesCall others a b → NamesCall (joined names others) a b
call_second names others a b call = record {
  others = record {
    logs = λ other none. call.others.logs other (each_of_second (λ n. other ≢ n) names.logs others.logs none);
    maps = λ other none. call.others.maps other (each_of_second (λ n. other ≢ n) names.maps others.maps none);
  };
  images = stay_second names others a b call.images;
}

-- ---- and leaves the other

module _ (names : Names) (a b : State) (call : NamesCall names a b) where
  -- a side stands for what it did
  pub state_beside : {Db S U : Type 0} (k : Kind Db S U) (db : Db) (n : Numbers S U) (s : machine.State Operation)
      → AreApart names (k.names db) → IsStateOf k (present a) db n s → IsStateOf k (present b) db n s
  state_beside k db n s apart of = record {
    log = k.framed (kept_of s) (present a) (present b) db
        (each_so (λ name. IsNoneOf name names.logs) (λ name. b.log name ≡ a.log name) (k.names db).logs
        call.others.logs apart.logs)
        (each_so (λ name. IsNoneOf name names.maps) (λ name. b.map name ≡ a.map name) (k.names db).maps
        call.others.maps apart.maps) of.log;
    batches = of.batches;
    marks = of.marks;
  }

  -- what is durable of the full database stays so
  module _ (db : FullView) (apart : AreApart names (full_kind.names db)) where
    pub durable_beside : full_kind.is_durable db a → full_kind.is_durable db b
    durable_beside durable =
        let none = apart.logs.0 in
        durable_after names db.journal.items.name a b call.images none
        (call.others.logs db.journal.items.name none) durable

    pub synced_beside : full_kind.is_synced db a → full_kind.is_synced db b
    synced_beside synced =
        let none = apart.logs.1.0 in (
          durable_beside synced.0,
          durable_after names db.journal.tree.log.name a b call.images none
              (call.others.logs db.journal.tree.log.name none) synced.1,
        )

  -- and so does what is durable of the compact one
  pub witnesses_beside : (db : CompactView) → AreApart names (compact_kind.names db)
      → compact_kind.is_durable db a → compact_kind.is_durable db b
  witnesses_beside db apart durable =
      let none = apart.logs.0 in
      durable_after names (seen_log db.log).name a b call.images none
      (call.others.logs (seen_log db.log).name none) durable
