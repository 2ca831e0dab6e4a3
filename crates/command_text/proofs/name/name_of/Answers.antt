use Rattle.std.proofs.Common.{arith}
use Rattle.std.specs.Prelude.{codes}
use Rattle.std.proofs.lemmas.Slice.Eq.{text_from_reads}
use Rattle.command_text.proofs.name.name_of.Goals as goal

pub returns-in-98-2 : goal.returns-in-98-2
returns-in-98-2 c =
    text_from_reads c.args.word.now (codes "batch-get-many") (omega arith) (
      omega arith,
      (
        omega arith,
        (
          omega arith,
          (
            omega arith,
            (
              omega arith,
              (
                omega arith,
                (
                  omega arith,
                  (omega arith, (omega arith, (omega arith, (omega arith, (omega arith, (omega arith, (omega arith, tt))))))),
                ),
              ),
            ),
          ),
        ),
      ),
    )
