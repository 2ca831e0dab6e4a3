use Rattle.std.proofs.Common.{rules, inl, inr, subst}
use Rattle.std.specs.List.Sorted.{IsStrictlySortedBy}
use Rattle.compact_db.specs.Immutable.{keys_in, sets_of}
use Rattle.compact_db.proofs.SetLemmas.{set_few, sets_keys}
use Rattle.compact_db.proofs.immutable.crate+UnmerkleizedBatch+F+Operation+F+K+V+H.set.Goals as goal
use Rattle.compact_db.proofs.immutable.crate+UnmerkleizedBatch+F+Operation+F+K+V+H.set.Goals.{else-size-ge-MAX_LEAVES-via-then-size-ge-MAX_LEAVES+else-not-has_key, else-size-ge-MAX_LEAVES-via-else-size-ge-MAX_LEAVES}

pub invariant_of-self : goal.invariant_of-self
invariant_of-self g c = record {
  none = c.self.invariant.none;
  base_is = c.self.invariant.base_is;
  few = set_few _ _ _ _ _ _ g.K.Ord.cmp c.self.inside.base.size c.self.inside.pending.values.entries c.put.new.self.values.entries c.args.key
      c.put.ensures.one_more c.put.ensures.again c.self.invariant.few (elim c.else-size-ge-MAX_LEAVES.branch [
        | else-size-ge-MAX_LEAVES-via-then-size-ge-MAX_LEAVES+else-not-has_key w ↦ inl (search rules)
        | else-size-ge-MAX_LEAVES-via-else-size-ge-MAX_LEAVES w ↦ inr (search rules)
      ]);
}

pub returns-clause-ordered : goal.returns-clause-ordered
returns-clause-ordered g c =
    let ordered : IsStrictlySortedBy g.K.Ord.cmp (keys_in (sets_of {F = g.row.F.Denot} {V = g.row.V.Denot} {D = g.row.K-Cfg.Denot}
    {C = g.row.V-Value-Cfg.Denot} c.put.new.self.values.entries)) =
    subst (IsStrictlySortedBy g.K.Ord.cmp) (sets_keys _ _ _ _ _ _ c.put.new.self.values.entries) c.put.ensures.ordered in
    search rules
