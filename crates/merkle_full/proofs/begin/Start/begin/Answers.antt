use Rattle.std.proofs.Common.{◌≡◌, inl, inr, ℕ, List, refl, sym, ◌∙◌, ap, subst, arith}
use Rattle.std.specs.Prelude.{◌⊎◌, string_bytes}
use Rattle.journal_base.specs.View.{View, seen_of, IsHeld}
use Rattle.tree_store.specs.Stored.{size}
use Rattle.tree_core.specs.Tree.{rests}
use Rattle.volume_base.specs.Log.{Log, end_of, BecomesOneOf}
use Rattle.volume_base.specs.Names.{log_and_map}
use Rattle.volume_base.specs.Volume.{MapCall, OnlyLeft}
use Rattle.volume_base.proofs.CallLemmas.{names_call_map, names_call_joins}
use Rattle.merkle_full.proofs.BeginLemmas.{map_begun, log_after, kept_low, ends_begun}
use Rattle.merkle_full.proofs.PruneRun.{names_wider}
use Rattle.volume_base.specs.Errors.{as_journal_error}
use Rattle.merkle_full.proofs.LiftedLemmas.{err_lifted}
use Rattle.merkle_full.proofs.begin.Start.begin.Goals as goal

pub returns-in_err-map_replace-clause-names : goal.returns-in_err-map_replace-clause-names
returns-in_err-map_replace-clause-names g c told =
    let s0 = g.V.Volume.state c.args.vol.now in
    let s1 = g.V.Volume.state c.map_replace.new.self in
    let metadata = string_bytes c.args.metadata in
    let call = subst (λ (m : List ℕ). MapCall m (BecomesOneOf c.args.self.map) s0 s1) c.as_str.ensures.value (c.in_err-map_replace.ensures.call.map told) in
    names_call_map (log_and_map (string_bytes c.args.nodes.seen.name) metadata) metadata _ s0 s1 (inl refl) call

pub returns-in_err-map_replace-clause-images : goal.returns-in_err-map_replace-clause-images
returns-in_err-map_replace-clause-images g c told =
    let s0 = g.V.Volume.state c.args.vol.now in
    let s1 = g.V.Volume.state c.map_replace.new.self in
    let call = subst (λ (m : List ℕ). MapCall m (BecomesOneOf c.args.self.map) s0 s1) c.as_str.ensures.value (c.in_err-map_replace.ensures.call.map told) in
    map_begun (string_bytes c.args.nodes.seen.name) (string_bytes c.args.metadata) c.args.self.map s0 s1 call.images

pub returns-in_err-nodes-clause-names : goal.returns-in_err-nodes-clause-names
returns-in_err-nodes-clause-names g c told =
    let s0 = g.V.Volume.state c.args.vol.now in
    let s1 = g.V.Volume.state c.map_replace.new.self in
    let s2 = g.V.Volume.state c.begun_log.new.vol in
    let name = string_bytes c.args.nodes.seen.name in
    let metadata = string_bytes c.args.metadata in
    let names = log_and_map name metadata in
    let call = subst (λ (m : List ℕ). MapCall m (BecomesOneOf c.args.self.map) s0 s1) c.as_str.ensures.value ((c.in_ok-map_replace.ensures {u = tt}).call.map told) in
    names_call_joins names s0 s1 s2 (names_call_map names metadata _ s0 s1 (inl refl) call) (names_wider name metadata s1 s2 (c.in_err-nodes.ensures.names told))

pub returns-in_err-nodes-clause-images : goal.returns-in_err-nodes-clause-images
returns-in_err-nodes-clause-images g c told =
    let s0 = g.V.Volume.state c.args.vol.now in
    let s1 = g.V.Volume.state c.map_replace.new.self in
    let s2 = g.V.Volume.state c.begun_log.new.vol in
    let name = string_bytes c.args.nodes.seen.name in
    let metadata = string_bytes c.args.metadata in
    let made = c.args.self.map in
    let replaced = c.in_ok-map_replace.ensures {u = tt} in
    let call = subst (λ (m : List ℕ). MapCall m (BecomesOneOf made) s0 s1) c.as_str.ensures.value (replaced.call.map told) in
    let only = subst (λ (m : List ℕ). OnlyLeft (s1.map_left s1.clock m) made) c.as_str.ensures.value (replaced.durable told) in
    log_after name metadata made (λ log m. (s0.log_left s0.clock name log × s0.map_left s0.clock metadata m) ⊎ (m ≡ made)) s0 s1 s2 (map_begun name metadata made s0 s1 call.images) only (λ log. inr refl) (c.in_err-nodes.ensures.names told)

pub invariant_of-result : goal.invariant_of-result
invariant_of-result g c = record {
  sound = c.requires.sound;
  low = let low = kept_low c.args.start _ c.args.self.kept c.requires.within in omega (arith, low, c.requires.boundary);
  exact = λ p lt. c.requires.exact p ∙ ap (λ (n : ℕ). rests g.F.Family.shape n c.args.start p) (sym c.requires.boundary);
}

pub returns-clause-rests : goal.returns-clause-rests
returns-clause-rests g c = record {
  boundary = c.requires.boundary ∙ sym c.requires.leaves;
  exact = λ p. c.requires.exact p ∙ ap (λ (n : ℕ). rests g.F.Family.shape n c.args.start p) (sym c.requires.leaves);
}

pub returns-clause-seated : goal.returns-clause-seated
returns-clause-seated g c told held =
    let s = g.F.Family.shape in
    let s0 = g.V.Volume.state c.args.vol.now in
    let s1 = g.V.Volume.state c.map_replace.new.self in
    let s2 = g.V.Volume.state c.begun_log.new.vol in
    let view = seen_of c.args.nodes in
    let start = c.args.start in
    let kept = c.args.self.kept in
    let did = c.in_ok-nodes.ensures {u = tt} in
    let same = ((c.in_ok-map_replace.ensures {u = tt}).call.map told).others.logs view.name in
    let now : IsHeld view s1 = record { start_is = held.start_is ∙ ap (λ (l : Log). l.start) (sym same); end_is = held.end_is ∙ ap end_of (sym same) } in
    let after = did.held told in
    record {
      start_is = after.start_is;
      end_is = after.end_is;
      nodes = after.end_is ∙ ap (λ (v : View _). end_of (s2.log v.name)) did.made ∙ ap end_of (did.log told now) ∙ ends_begun s view.blob start _ view.start view.end kept (s1.log view.name) now.start_is now.end_is c.requires.within c.requires.low c.requires.fits
          ∙ ap (size s) (sym c.requires.boundary);
    }

pub returns-clause-durable_map : goal.returns-clause-durable_map
returns-clause-durable_map g c told image left =
    let s1 = g.V.Volume.state c.map_replace.new.self in
    let s2 = g.V.Volume.state c.begun_log.new.vol in
    let metadata = string_bytes c.args.metadata in
    let only = subst (λ (m : List ℕ). OnlyLeft (s1.map_left s1.clock m) c.args.self.map) c.as_str.ensures.value ((c.in_ok-map_replace.ensures {u = tt}).durable told) in
    let call = (c.in_ok-nodes.ensures {u = tt}).names told in
    only image ((call.images.maps metadata tt s2.clock image call.images.past.later (omega arith)).0 left)

pub returns-clause-names : goal.returns-clause-names
returns-clause-names g c told =
    let s0 = g.V.Volume.state c.args.vol.now in
    let s1 = g.V.Volume.state c.map_replace.new.self in
    let s2 = g.V.Volume.state c.begun_log.new.vol in
    let name = string_bytes c.args.nodes.seen.name in
    let metadata = string_bytes c.args.metadata in
    let names = log_and_map name metadata in
    let call = subst (λ (m : List ℕ). MapCall m (BecomesOneOf c.args.self.map) s0 s1) c.as_str.ensures.value ((c.in_ok-map_replace.ensures {u = tt}).call.map told) in
    names_call_joins names s0 s1 s2 (names_call_map names metadata _ s0 s1 (inl refl) call) (names_wider name metadata s1 s2 ((c.in_ok-nodes.ensures {u = tt}).names told))

pub returns-clause-images : goal.returns-clause-images
returns-clause-images g c told =
    let s0 = g.V.Volume.state c.args.vol.now in
    let s1 = g.V.Volume.state c.map_replace.new.self in
    let s2 = g.V.Volume.state c.begun_log.new.vol in
    let name = string_bytes c.args.nodes.seen.name in
    let metadata = string_bytes c.args.metadata in
    let made = c.args.self.map in
    let replaced = c.in_ok-map_replace.ensures {u = tt} in
    let call = subst (λ (m : List ℕ). MapCall m (BecomesOneOf made) s0 s1) c.as_str.ensures.value (replaced.call.map told) in
    let only = subst (λ (m : List ℕ). OnlyLeft (s1.map_left s1.clock m) made) c.as_str.ensures.value (replaced.durable told) in
    log_after name metadata made (λ log m. (s0.log_left s0.clock name log × s0.map_left s0.clock metadata m) ⊎ (m ≡ made)) s0 s1 s2 (map_begun name metadata made s0 s1 call.images) only (λ log. inr refl) ((c.in_ok-nodes.ensures {u = tt}).names told)

pub returns-in_err-map_replace-clause-errors : goal.returns-in_err-map_replace-clause-errors
returns-in_err-map_replace-clause-errors g c = err_lifted c.from_residual.result (as_journal_error c.in_err-map_replace.field-0.0) c.from_residual.ensures.1
