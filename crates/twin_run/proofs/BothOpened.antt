-- Both databases of a volume, opened one after another.
use Rattle.std.proofs.Common.{◌≡◌, ◌≢◌, ℕ, ◌<◌, ◌≤◌, List, [], length, take, get_or, Option, Some, None, sym, ◌∙◌, ap, subst, arith}
use Rattle.std.proofs.lemmas.List.{length-take-le}
use Rattle.volume_base.specs.Log.{Log}
use Rattle.volume_base.specs.Moments.{present}
use Rattle.volume_base.specs.Names.{Names, EachOf, NamesCall}
use Rattle.volume_base.specs.Volume.{State}
use Rattle.volume_base.proofs.NameLemmas.{durable_after}
use Rattle.tree_shape.specs.Mmr.{mmr}
use Rattle.tree_shape.specs.Sha256Codec.{bytes_of}
use Rattle.tree_shape.specs.declared.mmr.Mmr.{Mmr}
use Rattle.tree_shape.specs.declared.sha256.Sha256Digest.{Sha256Digest}
use Rattle.chain_core.specs.declared.commitment.Commitment.{Commitment}
use Rattle.log_model.specs.AppliedSizes.{sizes_to}
use Rattle.log_model.specs.Good.{AnyList, IsGood}
use Rattle.log_model.specs.Machine as machine
use Rattle.log_model.specs.Opening.{last_kept, opened_at}
use Rattle.log_model.specs.Stored.{CompactStands}
use Rattle.list_machine.specs.Config.{Config, AreNamesApart}
use Rattle.list_machine.specs.Operation.{Operation, meaning, sha}
use Rattle.list_machine.specs.Starts.{IsStart, compact_names, full_names, names_in, opened_from, twin_names}
use Rattle.list_machine.specs.Step.{plain_commit}
use Rattle.twin_batches.specs.Kind.{Kept, kept_of}
use Rattle.twin_databases.specs.CompactKind.{CompactView, compact_kind}
use Rattle.twin_databases.specs.FullKind.{FullView, IsFullDbOf, IsFullStart, full_end, full_kind, kept_full, opened_list}
use Rattle.twin_databases.specs.Reopening.{FollowsOperations, KeepsOperations, KeepsWitnesses, OpensAgain}
use Rattle.twin_databases.proofs.CompactStanding.{retold}
use Rattle.twin_databases.proofs.NodeReach.{retold_nodes}
use Rattle.twin_run.specs.Twins.{AreOpenedAs}
use Rattle.twin_run.proofs.Realigning as realigning

-- ---- what the calls of one database leave of the other

pub full_call : (config : Config) (a b : State) → NamesCall (full_names config) a b → NamesCall (twin_names config) a b
full_call config a b call = record {
  others = record {
    logs = λ other none. call.others.logs other (none.0, (none.1.0, tt));
    maps = λ other none. call.others.maps other none;
  };
  images = record {
    past = call.images.past;
    logs = λ other none. call.images.logs other (none.0, (none.1.0, tt));
    maps = λ other none. call.images.maps other none;
  };
}

pub compact_call : (config : Config) (a b : State) → NamesCall (compact_names config) a b
    → NamesCall (twin_names config) a b
compact_call config a b call = record {
  others = record {
    logs = λ other none. call.others.logs other (none.1.1.0, tt);
    maps = λ other none. call.others.maps other tt;
  };
  images = record {
    past = call.images.past;
    logs = λ other none. call.images.logs other (none.1.1.0, tt);
    maps = λ other none. call.images.maps other tt;
  };
}

module _ (config : Config) (apart : AreNamesApart config) (a b : State) where
  module _ (call : NamesCall (compact_names config) a b) (db : FullView)
      (named : full_kind.names db ≡ full_names config) where
    pub full_stays : (kept : Kept) → IsFullDbOf kept (present a) db → IsFullDbOf kept (present b) db
    full_stays kept is =
        let log = call.others.logs config.log (apart.log_witness, tt) in
        let nodes = call.others.logs config.nodes (apart.nodes_witness, tt) in
        let metadata = call.others.maps config.metadata tt in
        full_kind.framed kept (present a) (present b) db
        (subst (λ (n : Names). EachOf (λ name. b.log name ≡ a.log name) n.logs) (sym named) (log, (nodes, tt)))
        (subst (λ (n : Names). EachOf (λ name. b.map name ≡ a.map name) n.maps) (sym named) (metadata, tt)) is

    pub full_synced : full_kind.is_synced db a → full_kind.is_synced db b
    full_synced synced =
        let log : db.journal.items.name ≡ config.log = ap (λ (n : Names). get_or n.logs 0 []) named in
        let nodes : db.journal.tree.log.name ≡ config.nodes = ap (λ (n : Names). get_or n.logs 1 []) named in
        let log_apart : db.journal.items.name ≢ config.witness = λ e. apart.log_witness (sym log ∙ e) in
        let nodes_apart : db.journal.tree.log.name ≢ config.witness = λ e. apart.nodes_witness (sym nodes ∙ e) in (
          durable_after (compact_names config) db.journal.items.name a b call.images (log_apart, tt)
              (call.others.logs db.journal.items.name (log_apart, tt)) synced.0,
          durable_after (compact_names config) db.journal.tree.log.name a b call.images (nodes_apart, tt)
              (call.others.logs db.journal.tree.log.name (nodes_apart, tt)) synced.1,
        )

  module _ (call : NamesCall (full_names config) a b) where
    abbrev WitnessApart : List ℕ → Type 0
    WitnessApart name = (name ≢ config.log) × ((name ≢ config.nodes) × Unit {0})

    witness_apart : WitnessApart config.witness
    witness_apart = (λ e. apart.log_witness (sym e), (λ e. apart.nodes_witness (sym e), tt))

    pub witness_stays : b.log config.witness ≡ a.log config.witness
    witness_stays = call.others.logs config.witness witness_apart

    module _ (db : CompactView) (named : compact_kind.names db ≡ compact_names config) where
      pub compact_stays : (kept : Kept) → compact_kind.is_of kept (present a) db
          → compact_kind.is_of kept (present b) db
      compact_stays kept is =
          compact_kind.framed kept (present a) (present b) db
          (subst (λ (n : Names). EachOf (λ name. b.log name ≡ a.log name) n.logs) (sym named) (witness_stays, tt))
          (subst (λ (n : Names). EachOf (λ name. b.map name ≡ a.map name) n.maps) (sym named) tt) is

      pub compact_synced : compact_kind.is_synced db a → compact_kind.is_synced db b
      compact_synced synced =
          let name = ap (λ (n : Names). get_or n.logs 0 []) named in
          let beside = subst WitnessApart (sym name) witness_apart in
          durable_after (full_names config) (get_or (compact_kind.names db).logs 0 []) a b call.images beside
          (call.others.logs (get_or (compact_kind.names db).logs 0 []) beside) synced

-- ---- on any contents

-- a size past 0 is a cap other than 0
pub some_cap : (cap size : ℕ) → cap ≡ size → 0 < size → Some cap ≢ Some 0
some_cap cap size same some = λ none. absurd (let zero_cap : cap ≡ 0 = cc in omega (arith, zero_cap, same, some))

-- what is kept of the log of operations, over the call of the other database
pub kept_over : (config : Config) (apart : AreNamesApart config) (old mid next : State)
    → NamesCall (compact_names config) mid next → (limit n size c : ℕ) (new : Log)
    → ((first : Log) → KeepsOperations limit None n first (next.log config.log)
    → KeepsOperations limit (Some c) c first new)
    → size ≡ c → KeepsOperations limit None n (old.log config.log) (mid.log config.log)
    → KeepsOperations limit (Some size) size (old.log config.log) new
kept_over config apart old mid next call limit n size c new lower same keeps =
    let stays = call.others.logs config.log (apart.log_witness, tt) in
    subst (λ (k : ℕ). KeepsOperations limit (Some k) k (old.log config.log) new) (sym same)
    (lower (old.log config.log)
    (subst (λ (l : Log). KeepsOperations limit None n (old.log config.log) l) (sym stays) keeps))

-- and of that of witnesses, over the calls of the other
pub witnesses_over : (config : Config) (apart : AreNamesApart config) (old mid next new : State)
    → NamesCall (full_names config) old mid → NamesCall (full_names config) next new → (limit most n size : ℕ)
    → most ≡ n → KeepsOperations limit None n (old.log config.log) (mid.log config.log)
    → KeepsWitnesses (Some most) size (mid.log config.witness) (next.log config.witness)
    → FollowsOperations limit size (old.log config.log) (old.log config.witness) (new.log config.witness)
witnesses_over config apart old mid next new first last limit most n size same operations keeps =
    let over = subst (λ (l : Log). KeepsWitnesses (Some most) size (old.log config.witness) l)
    (sym (witness_stays config apart next new last))
    (subst (λ (l : Log). KeepsWitnesses (Some most) size l (next.log config.witness))
    (witness_stays config apart old mid first) keeps) in
    record {
      end = operations.end;
      ends = operations.ends;
      kept = subst (λ (m : ℕ). KeepsWitnesses (Some m) size (old.log config.witness) (new.log config.witness))
          (same ∙ operations.sized) over;
    }

-- ---- the databases that are opened one after another

-- what a first opening gives of each list for which the contents stand
abbrev pub OpensFirst : Config → State → State → FullView → Type 0
OpensFirst config old mid full =
    (list : List Operation) (sizes : List ℕ) (wstart : ℕ) → IsFullStart config (present old) None list
    → IsFullDbOf (kept_full (opened_list (full_end None list) list) sizes (old.log config.log).start wstart)
    (present mid) full

abbrev IsGoodUnder : Config → machine.State Operation → Type 0
IsGoodUnder config s = IsGood meaning AnyList (λ (v : List ℕ). length v ≤ config.value_limit) plain_commit s

abbrev pub HasWitnessesOf : Config → machine.State Operation → State → Type 0
HasWitnessesOf config s v =
    CompactStands mmr sha bytes_of meaning s.ops s.sizes s.prune s.durable (v.log config.witness)

-- what an opening of the compact one gives of each good state
abbrev pub OpensUnder : Config → Option ℕ → State → State → CompactView → Type 0
OpensUnder config cap mid next compact =
    (s : machine.State Operation) (most : ℕ) → cap ≡ Some most → 1 ≤ most → s.durable ≤ most → IsGoodUnder config s
    → HasWitnessesOf config s mid
    → compact_kind.is_of
    (kept_of (opened_at (names_in config) s (present mid) (last_kept most (mid.log config.witness) 1 0 s.sizes)))
    (present next) compact

-- what the full one is of, where it was opened again
abbrev pub OpensLower : Config → ℕ → FullView → State → State → FullView → Type 0
OpensLower config size full next new lower =
    (list : List Operation) (sizes : List ℕ) (start wstart : ℕ)
    → IsFullDbOf (kept_full list sizes start wstart) (present next) full → OpensAgain config start size list
    → IsFullDbOf (kept_full (take size list) sizes start wstart) (present new) lower

module _ (config : Config) (apart : AreNamesApart config) (small : config.value_limit ≤ 16777216)
    (s : machine.State Operation) (old mid : State) (start : IsStart config s (present old)) (full : FullView)
    (opens : OpensFirst config old mid full) (named : full_kind.names full ≡ full_names config)
    (first_names : NamesCall (full_names config) old mid) where
  abbrev First : List Operation
  First = realigning.First config s (present old) start small

  abbrev Size : ℕ
  Size = realigning.Size config s (present old) start small

  abbrev Start : ℕ
  Start = (old.log config.log).start

  -- the full database is of the first list
  is_first : (sizes : List ℕ) (wstart : ℕ) → IsFullDbOf (kept_full First sizes Start wstart) (present mid) full
  is_first sizes wstart =
      opens (realigning.Listed config s (present old) start small) sizes wstart
      (realigning.first_start config s (present old) start small)

  first_size : full.state.size ≡ length First
  first_size =
      ap (λ (c : Commitment Mmr Sha256Digest). c.size)
      (full_kind.state_is (kept_full First [] Start 0) (present mid) full (is_first [] 0))

  -- so under its size the compact one can be opened
  pub most_low : 1 ≤ full.state.size
  most_low = (let le = realigning.first_low config s (present old) start small in omega (arith, le, first_size))

  pub most_past : s.durable ≤ full.state.size
  most_past = (let le = realigning.first_past config s (present old) start small in omega (arith, le, first_size))

  pub witnesses : HasWitnessesOf config s mid
  witnesses =
      subst (λ (log : Log). CompactStands mmr sha bytes_of meaning s.ops s.sizes s.prune s.durable log)
      (sym (witness_stays config apart old mid first_names)) start.stands.compact

  module _ (next : State) (compact : CompactView) (cap : Option ℕ) (cap_is : cap ≡ Some full.state.size)
      (under : OpensUnder config cap mid next compact) (next_names : NamesCall (compact_names config) mid next) where
    abbrev Opened : Kept
    Opened = kept_of (opened_from config s (present old))

    kept_size : last_kept full.state.size (mid.log config.witness) 1 0 s.sizes ≡ Size
    kept_size =
        ap (λ (n : ℕ). last_kept n (mid.log config.witness) 1 0 s.sizes) first_size
        ∙ ap (λ (log : Log). last_kept (length First) log 1 0 s.sizes) (witness_stays config apart old mid first_names)
        ∙ realigning.kept_first config s (present old) start small

    -- the compact one is of the opened state
    pub is_compact : compact_kind.is_of Opened (present next) compact
    is_compact =
        let n = last_kept full.state.size (mid.log config.witness) 1 0 s.sizes in
        retold (kept_of (opened_at (names_in config) s (present mid) n)) Opened (present next) compact
        (ap (λ (k : ℕ). take k s.ops) kept_size) (ap (λ (k : ℕ). sizes_to k s.sizes) kept_size)
        (ap (λ (log : Log). log.start) (witness_stays config apart old mid first_names))
        (under s full.state.size cap_is most_low most_past start.good witnesses)

    pub compact_size : (compact_kind.state compact).size ≡ Size
    compact_size =
        ap (λ (c : Commitment Mmr Sha256Digest). c.size)
        (compact_kind.state_is Opened (present next) compact is_compact)
        ∙ length-take-le Size s.ops (realigning.size_high config s (present old) start small)

    -- so the full one can be opened again under its size
    pub is_again : (sizes : List ℕ) (wstart : ℕ) → IsFullDbOf (kept_full First sizes Start wstart) (present next) full
    is_again sizes wstart =
        full_stays config apart mid next next_names full named (kept_full First sizes Start wstart)
        (is_first sizes wstart)

    module _ (size : ℕ) (size_is : size ≡ (compact_kind.state compact).size) where
      pub opens_again : OpensAgain config Start size First
      opens_again = subst (λ (n : ℕ). OpensAgain config Start n First) (sym (size_is ∙ compact_size))
          (realigning.opens_again config s (present old) start small)

    module _ (size : ℕ) (size_is : size ≡ (compact_kind.state compact).size) (new : State) (lower : FullView)
        (lowers : OpensLower config size full next new lower)
        (last_names : NamesCall (full_names config) next new)
        (compact_named : compact_kind.names compact ≡ compact_names config) where
      is_full : IsFullDbOf Opened (present new) lower
      is_full =
          let sizes = Opened.sizes in
          let wstart = Opened.wstart in
          let same : take size First ≡ take Size s.ops =
          ap (λ (n : ℕ). take n First) (size_is ∙ compact_size)
          ∙ realigning.first_cut config s (present old) start small in
          let count = length-take-le Size s.ops (realigning.size_high config s (present old) start small) in
          retold_nodes (kept_full (take Size s.ops) sizes Start wstart) Size (present new) lower count
          (subst (λ (list : List Operation). IsFullDbOf (kept_full list sizes Start wstart) (present new) lower) same
          (lowers First sizes Start wstart (is_again sizes wstart) (opens_again size size_is)))

      pub both_opened : AreOpenedAs (opened_from config s (present old)) (present new) lower compact
      both_opened = record {
        full = is_full;
        compact = compact_stays config apart next new last_names compact compact_named Opened is_compact;
      }

      pub one_state : full_kind.state lower ≡ compact_kind.state compact
      one_state =
          full_kind.state_is Opened (present new) lower is_full
          ∙ sym (compact_kind.state_is Opened (present next) compact is_compact)
