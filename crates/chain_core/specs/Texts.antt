-- What is wrong with the data of a database, in words.
use Rattle.std.specs.Prelude.{ℕ, List, codes}
use Rattle.chain_core.specs.declared.error.DataFault.{DataFault}
use Rattle.chain_core.specs.declared.error.DataFault.TheVariants.{CommitOperation, NotACommit, Witness, NoTip, ImportNotApplied}

unfoldable pub fault_text : DataFault → List ℕ
fault_text CommitOperation = codes "invalid commit operation"
fault_text NotACommit = codes "last operation was not a commit"
fault_text Witness = codes "invalid compact witness"
fault_text NoTip = codes "witness journal has no tip"
fault_text ImportNotApplied = codes "compact-sync import not applied"
