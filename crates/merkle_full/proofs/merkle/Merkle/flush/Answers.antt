use Rattle.std.proofs.Common.{inl, ℕ, ◌+◌, ◌-◌, ◌++◌, length, drop, Err, refl, sym, ◌∙◌, ap, subst, arith}
use Rattle.std.specs.String.{string_bytes}
use Rattle.journal_base.specs.View.{view_of}
use Rattle.tree_shape.specs.Slow.{nodes}
use Rattle.tree_core.specs.Tree.{IsRested, node_at}
use Rattle.tree_shape.specs.Shape.{made}
use Rattle.tree_shape.proofs.NeededLemmas.{made_le}
use Rattle.volume_base.specs.Log.{end_of}
use Rattle.volume_base.specs.Moments.{present}
use Rattle.volume_base.specs.Names.{log_alone, NamesCall}
use Rattle.volume_base.proofs.CallLemmas.{names_call_none, names_call_log}
use Rattle.merkle_full.specs.Flushing.{IsTail, AllStand, AllKeepStanding, IsFilled, IsOfFlush}
use Rattle.merkle_full.specs.Full.{Full, IsSeated}
use Rattle.merkle_full.specs.Lists.{IsFullOf}
use Rattle.merkle_full.proofs.FullLemmas.{full_end}
use Rattle.merkle_full.proofs.FlushLemmas.{seated_end, flushed_full, rested_rests, rested_kept, outside_append, of_tail, of_append}
use Rattle.merkle_full.proofs.GrownLemmas.{err_same}
use Rattle.merkle_full.proofs.StandLemmas.{pair_none, flush_stands, flush_ahead}
use Rattle.merkle_full.proofs.merkle.Merkle.flush.Goals as goal

pub rest-requires : goal.rest-requires
rest-requires g c = omega (arith, c.new.ensures, c.self.invariant.low, c.self.invariant.sound.within, c.self.invariant.sound.few)

pub tail_from-tail-requires : goal.tail_from-tail-requires
tail_from-tail-requires g c below = subst (IsTail g.F.Family.shape c.self.inside.mem c.bounds-end.result.1) (sym c.deref.ensures.value) ((c.in_ok-read.ensures {u = tt}).tail below)

pub returns-in_err-nodes-clause-outside : goal.returns-in_err-nodes-clause-outside
returns-in_err-nodes-clause-outside g c tells h all full = outside_append _ c.in_err-nodes.field-0.0 c.from_residual-in_err-nodes.ensures.1 (c.in_err-nodes.ensures.errors tt) (λ is.
    let s = g.F.Family.shape in
    let inv = c.self.invariant in
    let here = subst (λ (t : Full g.row.D.Denot). IsFullOf s h g.D.Spelled.spelling (g.D.Read.admits tt) all t (present (g.V.Volume.state c.args.vol.now))) (sym c.self.view_is) full in
    let over = c.in_err-nodes.ensures.overflow tells (ap Err is) in
    let ends = full_end s h g.D.Spelled.spelling (g.D.Read.admits tt) all _ (present (g.V.Volume.state c.args.vol.now)) here inv.sound.within in
    let counted = c.tail_from-tail.ensures.tail.counted in
    let small = g.met.F.Family.small c.self.inside.mem.leaves in
    omega (arith, over, here.end_is, counted, c.bounds-end.ensures.end, small, inv.sound.few))

pub invariant_of-result : goal.invariant_of-result
invariant_of-result g c =
    let rested = subst (λ (n : ℕ). IsRested g.F.Family.shape n c.self.inside.mem c.rest.new.self) c.new.ensures c.rest.ensures.rested in
    rested_kept g.F.Family.shape _ _ g.met.F.Family.lawful g.met.F.Family.keeps c.self.invariant rested c.rest.ensures.sound refl

pub returns-clause-rests : goal.returns-clause-rests
returns-clause-rests g c =
    let rested = subst (λ (n : ℕ). IsRested g.F.Family.shape n c.self.inside.mem c.rest.new.self) c.new.ensures c.rest.ensures.rested in
    rested_rests g.F.Family.shape _ _ g.met.F.Family.lawful g.met.F.Family.keeps c.self.invariant rested refl

pub returns-clause-full : goal.returns-clause-full
returns-clause-full g c tells h all full =
    let s = g.F.Family.shape in
    let old = g.V.Volume.state c.args.vol.now in
    let new = g.V.Volume.state c.append_all.new.vol in
    let here = subst (λ (t : Full g.row.D.Denot). IsFullOf s h g.D.Spelled.spelling (g.D.Read.admits tt) all t (present old)) (sym c.self.view_is) full in
    let did = c.in_ok-nodes.ensures {u = tt} in
    let held = did.held tells (record { start_is = here.start_is; end_is = here.end_is }) in
    let ends = full_end s h g.D.Spelled.spelling (g.D.Read.admits tt) all _ (present old) here c.self.invariant.sound.within in
    let tail = c.tail_from-tail.ensures.tree h all here.tree in
    let others = (did.log tt tells).others in
    flushed_full s h g.D.Spelled.spelling (g.D.Read.admits tt) all _ _ (present old) (present new) c.tail_from-tail.result.now here
    (record { leaves = c.rest.ensures.rested.leaves; boundary = refl; log = did.made; metadata = refl })
    (c.rest.ensures.rested.boundary ∙ sym c.rest.ensures.rested.leaves)
    (c.rest.ensures.tree h all here.tree)
    (tail ∙ ap (λ (n : ℕ). drop n (nodes s h all)) (c.bounds-end.ensures.end ∙ ends))
    (did.appended tells)
    held.start_is
    held.end_is
    (others.maps (string_bytes c.self.inside.metadata))

pub returns-in_err-read-clause-names : goal.returns-in_err-read-clause-names
returns-in_err-read-clause-names g c tells = names_call_none _ (g.V.Volume.state c.args.vol.now)

pub returns-in_err-nodes-clause-names : goal.returns-in_err-nodes-clause-names
returns-in_err-nodes-clause-names g c tells =
    subst (λ (t : Full g.row.D.Denot). NamesCall (log_alone t.log.name) (g.V.Volume.state c.args.vol.now) (g.V.Volume.state c.append_all.new.vol)) c.self.view_is
    (names_call_log _ _ _ _ _ (inl refl) (c.in_err-nodes.ensures.log tt tells))

pub returns-clause-names : goal.returns-clause-names
returns-clause-names g c tells =
    subst (λ (t : Full g.row.D.Denot). NamesCall (log_alone t.log.name) (g.V.Volume.state c.args.vol.now) (g.V.Volume.state c.append_all.new.vol)) c.self.view_is
    (names_call_log _ _ _ _ _ (inl refl) ((c.in_ok-nodes.ensures {u = tt}).log tt tells))

pub returns-in_err-read-clause-images : goal.returns-in_err-read-clause-images
returns-in_err-read-clause-images g c tells h all durable top full each = pair_none _ _ _ (g.V.Volume.state c.args.vol.now) each

pub returns-in_err-nodes-clause-images : goal.returns-in_err-nodes-clause-images
returns-in_err-nodes-clause-images g c tells h all durable top full each =
    let s = g.F.Family.shape in
    let old = g.V.Volume.state c.args.vol.now in
    let new = g.V.Volume.state c.append_all.new.vol in
    let P : Full g.row.D.Denot → Type 0 = λ t. IsFullOf s h g.D.Spelled.spelling (g.D.Read.admits tt) all t (present old) → AllStand s h g.D.Spelled.spelling all durable top t old → AllKeepStanding s h g.D.Spelled.spelling all durable top t old new in
    subst P c.self.view_is (λ here now.
    let ends = full_end s h g.D.Spelled.spelling (g.D.Read.admits tt) all _ (present old) here c.self.invariant.sound.within in
    let tail = c.tail_from-tail.ensures.tree h all here.tree in
    let is = tail ∙ ap (λ (n : ℕ). drop n (nodes s h all)) (c.bounds-end.ensures.end ∙ ends) in
    flush_stands s h g.D.Spelled.spelling all durable top (g.D.Read.admits tt) c.tail_from-tail.result.now _ old new here is (c.in_err-nodes.ensures.log tt tells).images now) full each

pub returns-clause-images : goal.returns-clause-images
returns-clause-images g c tells h all durable top full each =
    let s = g.F.Family.shape in
    let old = g.V.Volume.state c.args.vol.now in
    let new = g.V.Volume.state c.append_all.new.vol in
    let P : Full g.row.D.Denot → Type 0 = λ t. IsFullOf s h g.D.Spelled.spelling (g.D.Read.admits tt) all t (present old) → AllStand s h g.D.Spelled.spelling all durable top t old → AllKeepStanding s h g.D.Spelled.spelling all durable top t old new in
    subst P c.self.view_is (λ here now.
    let ends = full_end s h g.D.Spelled.spelling (g.D.Read.admits tt) all _ (present old) here c.self.invariant.sound.within in
    let tail = c.tail_from-tail.ensures.tree h all here.tree in
    let is = tail ∙ ap (λ (n : ℕ). drop n (nodes s h all)) (c.bounds-end.ensures.end ∙ ends) in
    flush_stands s h g.D.Spelled.spelling all durable top (g.D.Read.admits tt) c.tail_from-tail.result.now _ old new here is ((c.in_ok-nodes.ensures {u = tt}).log tt tells).images now) full each

pub returns-clause-start : goal.returns-clause-start
returns-clause-start g c tells h all full =
    let s = g.F.Family.shape in
    let old = g.V.Volume.state c.args.vol.now in
    let new = g.V.Volume.state c.append_all.new.vol in
    let here = subst (λ (t : Full g.row.D.Denot). IsFullOf s h g.D.Spelled.spelling (g.D.Read.admits tt) all t (present old)) (sym c.self.view_is) full in
    let did = c.in_ok-nodes.ensures {u = tt} in
    let held = did.held tells (record { start_is = here.start_is; end_is = here.end_is }) in
    held.start_is ∙ ap (λ v. (new.log v.name).start) did.made ∙ ap (λ l. l.start) (did.appended tells) ∙ sym here.start_is ∙ ap (λ (t : Full g.row.D.Denot). t.log.start) c.self.view_is

pub returns-in_err-nodes-clause-ahead : goal.returns-in_err-nodes-clause-ahead
returns-in_err-nodes-clause-ahead g c tells h all more durable top full each =
    let s = g.F.Family.shape in
    let old = g.V.Volume.state c.args.vol.now in
    let new = g.V.Volume.state c.append_all.new.vol in
    let P : Full g.row.D.Denot → Type 0 = λ t. IsFullOf s h g.D.Spelled.spelling (g.D.Read.admits tt) all t (present old) → AllStand s h g.D.Spelled.spelling (all ++ more) durable top t old → AllKeepStanding s h g.D.Spelled.spelling (all ++ more) durable top t old new in
    subst P c.self.view_is (λ here now.
    let ends = full_end s h g.D.Spelled.spelling (g.D.Read.admits tt) all _ (present old) here c.self.invariant.sound.within in
    let tail = c.tail_from-tail.ensures.tree h all here.tree in
    let is = tail ∙ ap (λ (n : ℕ). drop n (nodes s h all)) (c.bounds-end.ensures.end ∙ ends) in
    flush_ahead s h g.met.F.Family.lawful g.D.Spelled.spelling all more durable top (g.D.Read.admits tt) c.tail_from-tail.result.now _ old new here is (c.in_err-nodes.ensures.log tt tells).images now) full each

pub returns-clause-ahead : goal.returns-clause-ahead
returns-clause-ahead g c tells h all more durable top full each =
    let s = g.F.Family.shape in
    let old = g.V.Volume.state c.args.vol.now in
    let new = g.V.Volume.state c.append_all.new.vol in
    let P : Full g.row.D.Denot → Type 0 = λ t. IsFullOf s h g.D.Spelled.spelling (g.D.Read.admits tt) all t (present old) → AllStand s h g.D.Spelled.spelling (all ++ more) durable top t old → AllKeepStanding s h g.D.Spelled.spelling (all ++ more) durable top t old new in
    subst P c.self.view_is (λ here now.
    let ends = full_end s h g.D.Spelled.spelling (g.D.Read.admits tt) all _ (present old) here c.self.invariant.sound.within in
    let tail = c.tail_from-tail.ensures.tree h all here.tree in
    let is = tail ∙ ap (λ (n : ℕ). drop n (nodes s h all)) (c.bounds-end.ensures.end ∙ ends) in
    flush_ahead s h g.met.F.Family.lawful g.D.Spelled.spelling all more durable top (g.D.Read.admits tt) c.tail_from-tail.result.now _ old new here is ((c.in_ok-nodes.ensures {u = tt}).log tt tells).images now) full each

pub returns-in_err-read-clause-ahead : goal.returns-in_err-read-clause-ahead
returns-in_err-read-clause-ahead g c tells h all more durable top full each = pair_none _ _ _ (g.V.Volume.state c.args.vol.now) each

pub returns-in_err-nodes-clause-bounded : goal.returns-in_err-nodes-clause-bounded
returns-in_err-nodes-clause-bounded g c tells seated = outside_append _ c.in_err-nodes.field-0.0 c.from_residual-in_err-nodes.ensures.1 (c.in_err-nodes.ensures.errors tt) (λ is.
    let s = g.F.Family.shape in
    let inv = c.self.invariant in
    let here = subst (λ (t : Full g.row.D.Denot). IsSeated s t (present (g.V.Volume.state c.args.vol.now))) (sym c.self.view_is) seated in
    let over = c.in_err-nodes.ensures.overflow tells (ap Err is) in
    let counted = c.tail_from-tail.ensures.tail.counted in
    let small = g.met.F.Family.small c.self.inside.mem.leaves in
    let low = made_le s _ _ inv.sound.within in
    omega (arith, over, here.end_is, here.nodes, counted, c.bounds-end.ensures.end, small, inv.sound.few, low))

pub returns-clause-seated : goal.returns-clause-seated
returns-clause-seated g c tells seated =
    let s = g.F.Family.shape in
    let old = g.V.Volume.state c.args.vol.now in
    let new = g.V.Volume.state c.append_all.new.vol in
    let inv = c.self.invariant in
    let here = subst (λ (t : Full g.row.D.Denot). IsSeated s t (present old)) (sym c.self.view_is) seated in
    let did = c.in_ok-nodes.ensures {u = tt} in
    let held = did.held tells (record { start_is = here.start_is; end_is = here.end_is }) in
    let ends = seated_end s (old.log (string_bytes c.self.inside.nodes.name)) (new.log (string_bytes c.self.inside.nodes.name)) g.D.Spelled.spelling c.tail_from-tail.result.now c.self.inside.mem.boundary c.self.inside.mem.leaves c.bounds-end.result.1 inv.sound.within (sym here.end_is ∙ here.nodes) (c.bounds-end.ensures.end ∙ here.nodes) c.tail_from-tail.ensures.tail.counted (did.appended tells) in
    record {
      start_is = held.start_is;
      end_is = held.end_is;
      nodes = held.end_is ∙ ap (λ v. end_of (new.log v.name)) did.made ∙ ends ∙ ap (λ (n : ℕ). length (made s n)) (sym c.rest.ensures.rested.boundary);
    }

pub returns-in_err-read-clause-errors : goal.returns-in_err-read-clause-errors
returns-in_err-read-clause-errors g c =
    let s = g.F.Family.shape in
    let e = c.in_err-read.field-0.0 in
    let before : Full g.row.D.Denot = record { tree = c.self.inside.mem; boundary = c.self.inside.boundary; log = view_of c.self.inside.nodes; metadata = string_bytes c.self.inside.metadata } in
    err_same _ e (IsOfFlush s c.args.self) c.from_residual.ensures.1
    (subst (λ (t : Full g.row.D.Denot). IsOfFlush s t e) c.self.view_is (of_tail s before c.bounds-end.result.1 e c.bounds-end.ensures.end c.in_err-read.ensures.missing))

pub returns-in_err-nodes-clause-errors : goal.returns-in_err-nodes-clause-errors
returns-in_err-nodes-clause-errors g c = of_append g.F.Family.shape c.args.self _ c.in_err-nodes.field-0.0 c.from_residual-in_err-nodes.ensures.1 (c.in_err-nodes.ensures.errors tt)

pub returns-clause-rested : goal.returns-clause-rested
returns-clause-rested g c =
    let rested = subst (λ (n : ℕ). IsRested g.F.Family.shape n c.self.inside.mem c.rest.new.self) c.new.ensures c.rest.ensures.rested in
    subst (λ (t : Full g.row.D.Denot). IsRested g.F.Family.shape t.boundary t.tree c.rest.new.self) c.self.view_is rested

pub returns-clause-filled : goal.returns-clause-filled
returns-clause-filled g c tells =
    let s = g.F.Family.shape in
    let spelling = g.D.Spelled.spelling in
    let old = g.V.Volume.state c.args.vol.now in
    let new = g.V.Volume.state c.append_all.new.vol in
    let did = c.in_ok-nodes.ensures {u = tt} in
    let tail = c.tail_from-tail.ensures.tail in
    let from = c.bounds-end.ensures.end in
    let P : Full g.row.D.Denot → Type 0 = λ t. IsFilled s spelling t.tree t.log.end (old.log t.log.name) (new.log t.log.name) in
    subst P c.self.view_is (record {
      more = c.tail_from-tail.result.now;
      counted = tail.counted ∙ ap (λ (n : ℕ). length (made s c.self.inside.mem.leaves) - n) from;
      nodes = λ i d is. ap (λ (n : ℕ). node_at c.self.inside.mem (n + i)) (sym from) ∙ tail.nodes i d is;
      log = did.appended tells;
    })
