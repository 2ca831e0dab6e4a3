use Rattle.twin_run.proofs.Endings.{not_whole, stopped_so, wrote_nothing, wrote_so}
use Rattle.twin_run.proofs.RunMoments.{standard_so_far, standard_throughout}
use Rattle.twin_run.proofs.main_call.run_and_write.Goals as goal

pub returns-in_default-clause-run : goal.returns-in_default-clause-run
returns-in_default-clause-run g c =
    wrote_nothing g.V.Volume.tells (g.V.Volume.state c.args.volume.now) c.args.task c.args.commands.now
    (g.O.Sink.written c.args.output.now) (g.O.Sink.faults c.args.output.now)

pub returns-in-Ok-put_out-clause-run : goal.returns-in-Ok-put_out-clause-run
returns-in-Ok-put_out-clause-run g c =
    let run = c.in-Ok-run_twins.ensures in (
      c.in-Ok-run_twins.replies,
      record {
        replies = record {
          count = run.count;
          one_root = run.equal;
          told = rw c.in-Ok.ensures.same at run.replies;
        };
        left = rw c.in-Ok.ensures.same at run.left;
        lasting = rw c.in-Ok.ensures.same at run.durable;
        stood = λ told. standard_throughout _ c.args.commands.now (g.V.Volume.state c.args.volume.now)
            (g.V.Volume.state c.run_twins.new.volume) c.in-Ok.ensures.same (run.images told);
      },
      c.in-Ok-put_out.ensures.text,
    )

pub returns-in-Ok-run_twins-clause-run : goal.returns-in-Ok-run_twins-clause-run
returns-in-Ok-run_twins-clause-run g c =
    let run = c.in-Ok-run_twins.ensures in (
      c.in-Err-put_out.ensures.cause.failed,
      (
        c.in-Ok-run_twins.replies,
        record {
          replies = record {
            count = run.count;
            one_root = run.equal;
            told = rw c.in-Ok.ensures.same at run.replies;
          };
          left = rw c.in-Ok.ensures.same at run.left;
          lasting = rw c.in-Ok.ensures.same at run.durable;
          stood = λ told. standard_throughout _ c.args.commands.now (g.V.Volume.state c.args.volume.now)
              (g.V.Volume.state c.run_twins.new.volume) c.in-Ok.ensures.same (run.images told);
        },
        c.in-Err-put_out.ensures.text,
      ),
    )

pub returns-clause-no_fault : goal.returns-clause-no_fault
returns-clause-no_fault g c is = absurd (not_whole c.in-Err.stopped.fault (rw c.status_of.ensures at is))

pub returns-clause-run : goal.returns-clause-run
returns-clause-run g c =
    let stopped = c.in-Err.ensures in
    let so_far = rw c.in-Ok.ensures.same at stopped.so_far in
    let corrupt = rw c.in-Ok.ensures.same at stopped.corrupt in
    rw c.status_of.ensures
    (stopped_so g.V.Volume.tells _ _ c.args.task c.args.commands.now _ _ _ _ c.in-Err.stopped.fault stopped.volume
    corrupt (
      c.in-Err.stopped.replies,
      record {
        replies = record { fewer = stopped.fewer; one_root = stopped.equal_so_far; told = so_far };
        stood = λ told. standard_so_far _ c.args.commands.now (g.V.Volume.state c.args.volume.now)
            (g.V.Volume.state c.run_twins.new.volume) c.in-Ok.ensures.same c.in-Err.stopped.replies
            (stopped.images_so_far told);
      },
      wrote_so _ _ _ _ _ c.put_out-in-Err.result c.put_out-in-Err.ensures.text c.put_out-in-Err.ensures.cause,
    ))
