use Rattle.std.proofs.Common.{inl, refl}
use Rattle.memory_volume.proofs.StateLemmas.{idle_map_call, this_map, only_map_left, replace_call}
use Rattle.memory_volume.proofs.memory.MemoryVolume.put_map.Goals as goal

pub returns-in_err-record_replace-clause-map : goal.returns-in_err-record_replace-clause-map
returns-in_err-record_replace-clause-map c = idle_map_call _ _ _ _ _ _ c.args.name.now _ c.in_err-record_replace.ensures.recorded.err (λ m. inl refl)

pub returns-clause-put : goal.returns-clause-put
returns-clause-put c = this_map _ _ c.args.name.now c.args.map.now c.in_ok-record_replace.ensures.recorded.ok

pub returns-clause-durable : goal.returns-clause-durable
returns-clause-durable c = only_map_left _ _ c.args.name.now c.args.map.now c.in_ok-record_replace.ensures.recorded.ok c.args.self.now.failing c.args.self.now.failing 0 0

pub returns-clause-map : goal.returns-clause-map
returns-clause-map c = replace_call _ _ c.args.name.now c.args.map.now c.in_ok-record_replace.ensures.recorded.ok _ _ _ _
