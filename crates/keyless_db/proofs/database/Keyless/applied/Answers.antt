use Rattle.std.proofs.Common.{◌≡◌, ◌<◌, ◌+◌, ◌-◌, ◌^◌, List, [], length, ◌++◌, Ok, Err, refl, sym, ◌∙◌, ap, subst}
use Rattle.volume_base.specs.Log.{Log, end_of}
use Rattle.volume_base.specs.Moments.{present}
use Rattle.volume_base.specs.declared.error.JournalError.TheVariants.{SizeOverflow}
use Rattle.journal_base.specs.View.{log_of}
use Rattle.tree_core.specs.Applied.{Fits, FitsTree}
use Rattle.tree_core.specs.Tree.{IsOf}
use Rattle.auth_journal.specs.Appending.{Appends, unapplied}
use Rattle.auth_journal.specs.Batched.{IsSealedOfItems}
use Rattle.auth_journal.specs.Errors.{IsLifted}
use Rattle.auth_journal.specs.Joined.{Joined, IsJoinedOf, IsSameJoin}
use Rattle.auth_journal.specs.Standing.{KeepsStanding}
use Rattle.auth_journal.specs.declared.error.Error.{Error}
use Rattle.auth_journal.specs.declared.error.Error.TheVariants as joined
use Rattle.auth_journal.proofs.AppendLemmas.{appends_none, appends_ok}
use Rattle.chain_core.specs.declared.commitment.Commitment.{Commitment}
use Rattle.chain_core.specs.declared.error.Error.TheVariants.{Volume, Memory}
use Rattle.keyless_db.specs.Batches.{MerkleizedView, IsSoundMerkleized, own_items}
use Rattle.keyless_db.specs.DbView.{DbView, EndsAs, IsHeldFor}
use Rattle.keyless_db.proofs.ApplyLemmas.{applied_held, apply_errors, stale_below, full_below, unfit_tree, still_standing, behind_front}
use Rattle.keyless_db.proofs.LiftLemmas.{joined_back}
use Rattle.keyless_db.proofs.MarkLemmas.{refused_misfit}
use Rattle.keyless_db.proofs.SealLemmas.{read_index}
use Rattle.keyless_db.proofs.database.Keyless.applied.Goals as goal

pub returns-in_default-clause-appends : goal.returns-in_default-clause-appends
returns-in_default-clause-appends g c =
    let a = g.V.Volume.state c.args.vol.now in
    appends_none g.V.Volume.tells g.O.Spelled.spelling c.args.self.journal.items (unapplied c.args.batch.now.tree c.args.self.journal.tree.tree.leaves) a a Volume _ Memory (λ e. cc)

pub returns-in_default-clause-images : goal.returns-in_default-clause-images
returns-in_default-clause-images g c tells ops marks held =
    still_standing g.F.Family.shape g.H.Hasher.hash g.H.Digest.Spelled.spelling g.O.Spelled.spelling ops marks g.met.F.Family.lawful
    (unapplied c.args.batch.now.tree c.args.self.journal.tree.tree.leaves) c.args.self.journal (g.V.Volume.state c.args.vol.now)

pub returns-in-Ok-apply_batch-clause-commit : goal.returns-in-Ok-apply_batch-clause-commit
returns-in-Ok-apply_batch-clause-commit g c =
    let op = c.in-Ok.last_commit in
    let own : own_items c.batch.inside.tree ≡ c.items.result.now = read_index c.batch.inside.tree.items _ c.items.result.now [] c.items.ensures.own in
    let tree = ap (λ (b : MerkleizedView g.row.F.Denot g.row.H-Digest.Denot g.row.O.Denot). own_items b.tree) c.batch.view_is in
    let before : c.self.inside.last_commit ≡ c.args.self.commit = ap (λ (d : DbView g.row.F.Denot g.row.H-Digest.Denot g.row.O.Denot g.row.O-Cfg.Denot). d.commit) c.self.view_is in
    subst (λ (xs : List g.row.O.Denot). EndsAs xs c.args.self.commit op) (sym own ∙ tree)
    (subst (λ (x : g.row.O.Denot). EndsAs c.items.result.now x op) before c.in-Ok.ensures.ends)

pub returns-in-Ok-apply_batch-clause-held : goal.returns-in-Ok-apply_batch-clause-held
returns-in-Ok-apply_batch-clause-held g c tells ops more here held of =
    let s = g.F.Family.shape in
    let h = g.H.Hasher.hash in
    let m = g.O.Logged.meaning in
    let digest = g.H.Digest.Spelled.spelling in
    let admits = g.H.Digest.Read.admits tt in
    let spelling = g.O.Spelled.spelling in
    let a = g.V.Volume.state c.args.vol.now in
    let b = g.V.Volume.state c.apply_batch.new.vol in
    let k = c.in-Ok-apply_batch.journal in
    let batch = c.args.batch.now in
    let same : c.self.inside.journal ≡ c.args.self.journal = ap (λ (d : DbView g.row.F.Denot g.row.H-Digest.Denot g.row.O.Denot g.row.O-Cfg.Denot). d.journal) c.self.view_is in
    let was = joined_back s h digest admits spelling ops _ _ same a b held.journal in
    let sealed = subst (λ (x : MerkleizedView g.row.F.Denot g.row.H-Digest.Denot g.row.O.Denot). IsSealedOfItems s h spelling (ops ++ more) x.tree) (sym c.batch.view_is) of.tree in
    let joined = subst (λ (xs : List g.row.O.Denot). IsJoinedOf s h digest admits spelling (ops ++ xs) k (present b)) (behind_front ops more)
    (c.in-Ok-apply_batch.ensures.joined tells ops (ops ++ more) was sealed) in
    let sound = subst (λ (x : MerkleizedView g.row.F.Denot g.row.H-Digest.Denot g.row.O.Denot). IsSoundMerkleized x.tree x.bounds) c.batch.view_is c.batch.invariant in
    let kept = subst (λ (x : Joined g.row.H-Digest.Denot g.row.O-Cfg.Denot). IsSameJoin x k) same c.in-Ok-apply_batch.ensures.same.1 in
    let start = subst (λ (x : Joined g.row.H-Digest.Denot g.row.O-Cfg.Denot). (log_of x.items b).start ≡ (log_of x.items a).start) same
    (ap (λ (l : Log). l.start) (c.in-Ok-apply_batch.ensures.appends.appended tells)) in
    let tip : c.copied.result ≡ batch.bounds.tip = c.copied.ensures ∙ ap (λ (x : MerkleizedView g.row.F.Denot g.row.H-Digest.Denot g.row.O.Denot). x.bounds.tip) c.batch.view_is in
    subst (λ (x : Commitment g.row.F.Denot g.row.H-Digest.Denot).
    IsHeldFor s h m digest admits spelling (ops ++ more) (record { journal = k; state = x; commit = c.in-Ok.last_commit }) (present b)) (sym tip)
    (applied_held s h m digest admits spelling ops more c.args.self batch sound here of c.in-Ok.last_commit (returns-in-Ok-apply_batch-clause-commit g c)
    k (present a) (present b) held joined kept start)

pub returns-in-Ok-apply_batch-clause-appends : goal.returns-in-Ok-apply_batch-clause-appends
returns-in-Ok-apply_batch-clause-appends g c =
    let tells = g.V.Volume.tells in
    let spelling = g.O.Spelled.spelling in
    let a = g.V.Volume.state c.args.vol.now in
    let b = g.V.Volume.state c.apply_batch.new.vol in
    let k = c.in-Ok-apply_batch.journal in
    let same : c.self.inside.journal ≡ c.args.self.journal = ap (λ (d : DbView g.row.F.Denot g.row.H-Digest.Denot g.row.O.Denot g.row.O-Cfg.Denot). d.journal) c.self.view_is in
    let here = subst (λ (x : Joined g.row.H-Digest.Denot g.row.O-Cfg.Denot).
    Appends {E = Error g.row.F.Denot} tells joined.Volume spelling x.items (λ (made : Joined g.row.H-Digest.Denot g.row.O-Cfg.Denot). made.items) (unapplied c.batch.inside.tree x.tree.tree.leaves) a b (Ok k)) same c.in-Ok-apply_batch.ensures.appends in
    let did = subst (λ (x : MerkleizedView g.row.F.Denot g.row.H-Digest.Denot g.row.O.Denot).
    Appends {E = Error g.row.F.Denot} tells joined.Volume spelling c.args.self.journal.items (λ (made : Joined g.row.H-Digest.Denot g.row.O-Cfg.Denot). made.items) (unapplied x.tree c.args.self.journal.tree.tree.leaves) a b (Ok k)) c.batch.view_is here in
    appends_ok tells spelling c.args.self.journal.items (unapplied c.args.batch.now.tree c.args.self.journal.tree.tree.leaves) a b joined.Volume Volume _ _ k _ did refl

pub returns-in-Ok-apply_batch-clause-images : goal.returns-in-Ok-apply_batch-clause-images
returns-in-Ok-apply_batch-clause-images g c tells ops marks held =
    let s = g.F.Family.shape in
    let h = g.H.Hasher.hash in
    let digest = g.H.Digest.Spelled.spelling in
    let admits = g.H.Digest.Read.admits tt in
    let spelling = g.O.Spelled.spelling in
    let a = g.V.Volume.state c.args.vol.now in
    let b = g.V.Volume.state c.apply_batch.new.vol in
    let same : c.self.inside.journal ≡ c.args.self.journal = ap (λ (d : DbView g.row.F.Denot g.row.H-Digest.Denot g.row.O.Denot g.row.O-Cfg.Denot). d.journal) c.self.view_is in
    let was = joined_back s h digest admits spelling ops _ _ same a b held.journal in
    let here = subst (λ (x : Joined g.row.H-Digest.Denot g.row.O-Cfg.Denot).
    KeepsStanding s h digest spelling ops (ops ++ unapplied c.batch.inside.tree x.tree.tree.leaves) marks x a b) same (c.in-Ok-apply_batch.ensures.images tells ops marks was) in
    subst (λ (x : MerkleizedView g.row.F.Denot g.row.H-Digest.Denot g.row.O.Denot).
    KeepsStanding s h digest spelling ops (ops ++ unapplied x.tree c.args.self.journal.tree.tree.leaves) marks c.args.self.journal a b) c.batch.view_is here

pub returns-in-Err-clause-images : goal.returns-in-Err-clause-images
returns-in-Err-clause-images g c tells ops marks held =
    let s = g.F.Family.shape in
    let h = g.H.Hasher.hash in
    let digest = g.H.Digest.Spelled.spelling in
    let admits = g.H.Digest.Read.admits tt in
    let spelling = g.O.Spelled.spelling in
    let a = g.V.Volume.state c.args.vol.now in
    let b = g.V.Volume.state c.apply_batch.new.vol in
    let same : c.self.inside.journal ≡ c.args.self.journal = ap (λ (d : DbView g.row.F.Denot g.row.H-Digest.Denot g.row.O.Denot g.row.O-Cfg.Denot). d.journal) c.self.view_is in
    let was = joined_back s h digest admits spelling ops _ _ same a b held.journal in
    let here = subst (λ (x : Joined g.row.H-Digest.Denot g.row.O-Cfg.Denot).
    KeepsStanding s h digest spelling ops (ops ++ unapplied c.batch.inside.tree x.tree.tree.leaves) marks x a b) same (c.in-Err.ensures.images tells ops marks was) in
    subst (λ (x : MerkleizedView g.row.F.Denot g.row.H-Digest.Denot g.row.O.Denot).
    KeepsStanding s h digest spelling ops (ops ++ unapplied x.tree c.args.self.journal.tree.tree.leaves) marks c.args.self.journal a b) c.batch.view_is here

pub returns-in-Err-clause-unfit : goal.returns-in-Err-clause-unfit
returns-in-Err-clause-unfit g c is i fits =
    let s = g.F.Family.shape in
    let e = c.in-Err.error in
    let below = stale_below e c.from_apply.result c.from_apply.ensures is in
    let why = (c.in-Err.ensures.refused below.0 (ap Err below.1)).0 in
    let lifted = subst (λ (x : Error g.row.F.Denot). IsLifted x) below.1 c.in-Err.ensures.lifted in
    let tree = ap (λ (d : DbView g.row.F.Denot g.row.H-Digest.Denot g.row.O.Denot g.row.O-Cfg.Denot). d.journal.tree.tree) c.self.view_is in
    let there = subst (λ t. FitsTree s t c.args.batch.now.tree.nodes i) (sym tree) fits in
    let found = subst (λ (x : MerkleizedView g.row.F.Denot g.row.H-Digest.Denot g.row.O.Denot). FitsTree s c.self.inside.journal.tree.tree x.tree.nodes i) (sym c.batch.view_is) there in
    unfit_tree s c.self.inside.journal.tree.tree c.batch.inside.tree.nodes below.0 why lifted i found

pub returns-in-Err-clause-misfit : goal.returns-in-Err-clause-misfit
returns-in-Err-clause-misfit g c is all of i fits =
    let s = g.F.Family.shape in
    let h = g.H.Hasher.hash in
    let below = stale_below c.in-Err.error c.from_apply.result c.from_apply.ensures is in
    let lifted = subst (λ (x : Error g.row.F.Denot). IsLifted x) below.1 c.in-Err.ensures.lifted in
    let tree = subst (λ (d : DbView g.row.F.Denot g.row.H-Digest.Denot g.row.O.Denot g.row.O-Cfg.Denot). IsOf s h all d.journal.tree.tree) (sym c.self.view_is) of in
    let there = subst (λ (d : DbView g.row.F.Denot g.row.H-Digest.Denot g.row.O.Denot g.row.O-Cfg.Denot). Fits s h all d.journal.tree.tree.leaves c.args.batch.now.tree.nodes i) (sym c.self.view_is) fits in
    let found = subst (λ (x : MerkleizedView g.row.F.Denot g.row.H-Digest.Denot g.row.O.Denot). Fits s h all c.self.inside.journal.tree.tree.leaves x.tree.nodes i) (sym c.batch.view_is) there in
    refused_misfit s h all c.self.inside.journal.tree.tree.leaves c.batch.inside.tree.nodes below.0 (c.in-Err.ensures.misfit below.0 (ap Err below.1) all tree) lifted i found

pub returns-in-Err-clause-unwritten : goal.returns-in-Err-clause-unwritten
returns-in-Err-clause-unwritten g c is =
    let below = stale_below c.in-Err.error c.from_apply.result c.from_apply.ensures is in
    (c.in-Err.ensures.refused below.0 (ap Err below.1)).1

pub returns-in-Err-clause-full : goal.returns-in-Err-clause-full
returns-in-Err-clause-full g c is =
    let a = g.V.Volume.state c.args.vol.now in
    let below = full_below c.in-Err.error c.from_apply.result SizeOverflow c.from_apply.ensures is in (
      c.in-Err.ensures.unwritten (joined.Journal SizeOverflow) (ap Err below) tt,
      λ tells.
          let past = (c.in-Err.ensures.overflow SizeOverflow (ap Err below)).1 tells in
          let there = subst (λ (d : DbView g.row.F.Denot g.row.H-Digest.Denot g.row.O.Denot g.row.O-Cfg.Denot). 2 ^ 64 - 1 < end_of (log_of d.journal.items a) + c.batch.inside.tree.nodes.leaves) c.self.view_is past in
          subst (λ (x : MerkleizedView g.row.F.Denot g.row.H-Digest.Denot g.row.O.Denot). 2 ^ 64 - 1 < end_of (log_of c.args.self.journal.items a) + x.tree.nodes.leaves) c.batch.view_is there,
    )

pub returns-in-Err-clause-beyond : goal.returns-in-Err-clause-beyond
returns-in-Err-clause-beyond g c is tells =
    let a = g.V.Volume.state c.args.vol.now in
    let below = full_below c.in-Err.error c.from_apply.result SizeOverflow c.from_apply.ensures is in
    let past = c.in-Err.ensures.beyond SizeOverflow (ap Err below) tells in
    let there = subst (λ (d : DbView g.row.F.Denot g.row.H-Digest.Denot g.row.O.Denot g.row.O-Cfg.Denot). 2 ^ 64 - 1 < end_of (log_of d.journal.items a) + length (unapplied c.batch.inside.tree d.journal.tree.tree.leaves)) c.self.view_is past in
    subst (λ (x : MerkleizedView g.row.F.Denot g.row.H-Digest.Denot g.row.O.Denot). 2 ^ 64 - 1 < end_of (log_of c.args.self.journal.items a) + length (unapplied x.tree c.args.self.journal.tree.tree.leaves)) c.batch.view_is there

pub returns-in-Err-clause-errors : goal.returns-in-Err-clause-errors
returns-in-Err-clause-errors g c =
    apply_errors c.in-Err.error c.from_apply.result c.from_apply.ensures (λ x is. (c.in-Err.ensures.overflow x (ap Err is)).0)
