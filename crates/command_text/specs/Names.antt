-- The first words of commands.
use Rattle.std.specs.Prelude.{ℕ, List, codes}
use Rattle.command_text.specs.declared.name.Name.{Name}
use Rattle.command_text.specs.declared.name.Name.TheVariants.{New, Append, Seal, Apply, Hold, Release, Snapshot, Get, GetMany, BatchGet, BatchGetMany, Size, Metadata, Proof, CommitProof, Commit, Sync, StartSync, Prune}

abbrev pub name_text : Name → List ℕ
name_text New = codes "new"
name_text Append = codes "append"
name_text Seal = codes "seal"
name_text Apply = codes "apply"
name_text Hold = codes "hold"
name_text Release = codes "release"
name_text Snapshot = codes "snapshot"
name_text Get = codes "get"
name_text GetMany = codes "get-many"
name_text BatchGet = codes "batch-get"
name_text BatchGetMany = codes "batch-get-many"
name_text Size = codes "size"
name_text Metadata = codes "metadata"
name_text Proof = codes "proof"
name_text CommitProof = codes "commit-proof"
name_text Commit = codes "commit"
name_text Sync = codes "sync"
name_text StartSync = codes "start-sync"
name_text Prune = codes "prune"
