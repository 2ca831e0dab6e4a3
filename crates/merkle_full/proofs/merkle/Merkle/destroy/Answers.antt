use Rattle.std.proofs.Common.{inl, ℕ, List, refl, ap, subst}
use Rattle.volume_base.specs.Log.{Vanishes}
use Rattle.volume_base.specs.Volume.{LogCall}
use Rattle.volume_base.proofs.CallLemmas.{names_call_map}
use Rattle.merkle_full.specs.Full.{Full}
use Rattle.merkle_full.proofs.RemoveLemmas.{map_goes, log_goes, remnant_stands}
use Rattle.merkle_full.proofs.RunLemmas.{names_then_log}
use Rattle.merkle_full.proofs.merkle.Merkle.destroy.Goals as goal

pub returns-in_err-remove_map-clause-names : goal.returns-in_err-remove_map-clause-names
returns-in_err-remove_map-clause-names g c tells = names_call_map _ _ _ (g.V.Volume.state c.args.vol.now) (g.V.Volume.state c.remove_map.new.vol) (inl refl) (c.remove_map.ensures.call.map tells)

pub returns-in_err-remove_map-clause-images : goal.returns-in_err-remove_map-clause-images
returns-in_err-remove_map-clause-images g c tells =
    let a = g.V.Volume.state c.args.vol.now in
    let b = g.V.Volume.state c.remove_map.new.vol in
    map_goes c.args.self.log.name c.args.self.metadata a b b (c.remove_map.ensures.call.map tells).images

pub returns-in_err-destroy-clause-names : goal.returns-in_err-destroy-clause-names
returns-in_err-destroy-clause-names g c tells =
    names_then_log _ c.args.self.log.name _ Vanishes (g.V.Volume.state c.args.vol.now) (g.V.Volume.state c.remove_map.new.vol) (g.V.Volume.state c.destroy.new.vol) (inl refl) (ap (λ (t : Full g.row.D.Denot). t.log.name) c.self.view_is)
    (names_call_map _ _ _ (g.V.Volume.state c.args.vol.now) (g.V.Volume.state c.remove_map.new.vol) (inl refl) (c.remove_map.ensures.call.map tells)) (c.in_err-destroy.ensures.log tt tells)

pub returns-in_err-destroy-clause-images : goal.returns-in_err-destroy-clause-images
returns-in_err-destroy-clause-images g c tells =
    let a = g.V.Volume.state c.args.vol.now in
    let b = g.V.Volume.state c.remove_map.new.vol in
    let d = g.V.Volume.state c.destroy.new.vol in
    let call = subst (λ (n : List ℕ). LogCall n Vanishes b d) (ap (λ (t : Full g.row.D.Denot). t.log.name) c.self.view_is) (c.in_err-destroy.ensures.log tt tells) in
    log_goes c.args.self.log.name c.args.self.metadata a b d (c.remove_map.ensures.call.map tells).images (a.map c.args.self.metadata) ((g.met.V.Volume.contents_left c.args.vol.now tells).maps c.args.self.metadata)
    ((c.in_ok-remove_map.ensures {u = tt}).durable tells) call.images

pub returns-clause-names : goal.returns-clause-names
returns-clause-names g c tells =
    names_then_log _ c.args.self.log.name _ Vanishes (g.V.Volume.state c.args.vol.now) (g.V.Volume.state c.remove_map.new.vol) (g.V.Volume.state c.destroy.new.vol) (inl refl) (ap (λ (t : Full g.row.D.Denot). t.log.name) c.self.view_is)
    (names_call_map _ _ _ (g.V.Volume.state c.args.vol.now) (g.V.Volume.state c.remove_map.new.vol) (inl refl) (c.remove_map.ensures.call.map tells)) ((c.in_ok-destroy.ensures {u = tt}).log tt tells)

pub returns-clause-images : goal.returns-clause-images
returns-clause-images g c tells =
    let a = g.V.Volume.state c.args.vol.now in
    let b = g.V.Volume.state c.remove_map.new.vol in
    let d = g.V.Volume.state c.destroy.new.vol in
    let call = subst (λ (n : List ℕ). LogCall n Vanishes b d) (ap (λ (t : Full g.row.D.Denot). t.log.name) c.self.view_is) ((c.in_ok-destroy.ensures {u = tt}).log tt tells) in
    log_goes c.args.self.log.name c.args.self.metadata a b d (c.remove_map.ensures.call.map tells).images (a.map c.args.self.metadata) ((g.met.V.Volume.contents_left c.args.vol.now tells).maps c.args.self.metadata)
    ((c.in_ok-remove_map.ensures {u = tt}).durable tells) call.images

pub returns-in_err-remove_map-clause-stands : goal.returns-in_err-remove_map-clause-stands
returns-in_err-remove_map-clause-stands g c tells h all durable top has =
    remnant_stands g.F.Family.shape h g.D.Spelled.spelling all durable top g.met.F.Family.lawful (g.V.Volume.state c.args.vol.now) c.args.self.log.name c.args.self.metadata (g.V.Volume.state c.remove_map.new.vol) has (returns-in_err-remove_map-clause-images g c tells)

pub returns-in_err-destroy-clause-stands : goal.returns-in_err-destroy-clause-stands
returns-in_err-destroy-clause-stands g c tells h all durable top has =
    remnant_stands g.F.Family.shape h g.D.Spelled.spelling all durable top g.met.F.Family.lawful (g.V.Volume.state c.args.vol.now) c.args.self.log.name c.args.self.metadata (g.V.Volume.state c.destroy.new.vol) has (returns-in_err-destroy-clause-images g c tells)

pub returns-clause-stands : goal.returns-clause-stands
returns-clause-stands g c tells h all durable top has =
    remnant_stands g.F.Family.shape h g.D.Spelled.spelling all durable top g.met.F.Family.lawful (g.V.Volume.state c.args.vol.now) c.args.self.log.name c.args.self.metadata (g.V.Volume.state c.destroy.new.vol) has (returns-clause-images g c tells)
