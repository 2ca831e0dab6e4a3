use Rattle.std.specs.Prelude.{string_bytes}
use Rattle.list_machine.proofs.NamesApart.{apart}
use Rattle.list_machine.proofs.config.TwinConfig.names_apart.Goals as goal

pub returns : goal.returns
returns c =
    let i = c.self.inside in
    let t = apart (string_bytes i.log) (string_bytes i.nodes) (string_bytes i.metadata) (string_bytes i.witness) c.self.invariant.1 in
    rw (← c.self.view_is) (record { log_nodes = t.0; log_metadata = t.1; log_witness = t.2; nodes_metadata = t.3; nodes_witness = t.4; metadata_witness = t.5 })
