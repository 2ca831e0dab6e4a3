-- A good state of which contents stand for can be opened by either database.
use Rattle.std.proofs.Common.{ℕ, ◌-◌, ◌≤◌, List, length, arith}
use Rattle.std.specs.List.{AllByRecursion}
use Rattle.log_model.specs.Good.{AnyList, IsGood}
use Rattle.log_model.specs.Machine.{State}
use Rattle.compact_db.proofs.SizeLemmas.{all_at}
use Rattle.list_machine.specs.Operation.{Operation, meaning}
use Rattle.list_machine.specs.Step.{plain_commit}
use Rattle.list_machine.proofs.Spelled.{short_at}
use Rattle.list_machine.proofs.StateLaws.{Admits, admits_all}
use Rattle.twin_databases.specs.CompactKind.{IsOpenable}

module _ (limit : ℕ) (small : limit ≤ 16777216) (s : State Operation)
    (good : IsGood meaning AnyList (λ (v : List ℕ). length v ≤ limit) plain_commit s) where
  pub admitted : AllByRecursion (Admits limit) s.ops
  admitted =
      let few = good.ops.few in
      admits_all limit 0 0 s.ops (omega (arith, small)) (omega (arith, few)) good.ops.values good.ops.floors

  pub openable : IsOpenable (Admits limit) s
  openable = record {
    log = good.log;
    begins = good.ops.begins;
    few = good.ops.few;
    allows = λ i op at. all_at (Admits limit) s.ops i op admitted at;
    short = λ n. short_at limit small s.ops (n - 1) admitted;
  }
