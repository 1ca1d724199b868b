use Rattle.std.proofs.Common.{rules, List, ℕ, subst, Some}
use Rattle.vch_base.specs.Stream.{WritesPrefix}
use Rattle.vch_replay.specs.Run.{Refuses}
use Rattle.vch_replay.proofs.Ends.{good_short, part_refused, good_refused}
use Rattle.vch_replay.proofs.Grammars.{apart}
use Rattle.vch_replay.proofs.run.run_read.Goals as goal

pub returns-in-Err-TooLong-clause-complete : goal.returns-in-Err-TooLong-clause-complete
returns-in-Err-TooLong-clause-complete g c = λ good _ _. absurd (good_short c.args.command (g.S.Source.left c.args.source.now) (g.S.Source.left c.read_all.new.source) (good c.requires.reads) (search rules))

pub returns-in-Ok-write_all-2-clause-complete : goal.returns-in-Ok-write_all-2-clause-complete
returns-in-Ok-write_all-2-clause-complete g c = λ good _ _.
    let refused : Refuses c.args.command c.in-Ok.input.items c.in-Ok-Refused.line.items = subst (λ (x : List ℕ). Refuses c.args.command x c.in-Ok-Refused.line.items) c.as_slice.ensures.value (rw c.in-Ok-Refused.field-0-is at c.in-Ok-Refused.ensures) in
    absurd (
    good_refused c.args.command (g.S.Source.left c.args.source.now) (g.S.Source.left c.read_all.new.source) c.in-Ok.input.items c.in-Ok-Refused.line.items c.in-Ok.ensures.taken c.in-Ok.ensures.ended
    refused (apart c.args.command c.in-Ok-Refused.line.items) (good c.requires.reads))

pub returns-in-Ok-Refused-clause-part : goal.returns-in-Ok-Refused-clause-part
returns-in-Ok-Refused-clause-part g c = λ _.
    let refused : Refuses c.args.command c.in-Ok.input.items c.in-Ok-Refused.line.items = subst (λ (x : List ℕ). Refuses c.args.command x c.in-Ok-Refused.line.items) c.as_slice.ensures.value (rw c.in-Ok-Refused.field-0-is at c.in-Ok-Refused.ensures) in
    let prefix = subst (λ (x : List ℕ). WritesPrefix (g.K.Sink.written c.args.sink.now) (g.K.Sink.written c.write_all-in-Ok-Refused.new.sink) x) c.as_slice-in-Ok-Refused.ensures.value c.in-Err-write_all-2.ensures.prefix in
    part_refused c.args.command (g.S.Source.left c.args.source.now) (g.S.Source.left c.read_all.new.source) c.in-Ok.input.items c.in-Ok-Refused.line.items (g.K.Sink.written c.args.sink.now)
    (g.K.Sink.written c.write_all-in-Ok-Refused.new.sink) c.in-Ok.ensures.taken c.in-Ok.ensures.ended refused c.in-Ok.ensures.short prefix
