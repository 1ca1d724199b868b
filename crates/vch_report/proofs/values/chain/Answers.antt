use Rattle.std.proofs.Common.{◌∙◌, sym, arith, length-append, [], ◌∷◌}
use Rattle.vch_report.proofs.words.Chains.{first_none, first_some, next_none, next_some, next_many, no_more, left_shorter}
use Rattle.vch_report.proofs.values.chain.Goals as goal

pub returns-in_err-ordinal : goal.returns-in_err-ordinal
returns-in_err-ordinal c =
    rw c.from_residual.ensures
    (first_none c.args.word.now c.front.result.0.now c.front.result.1.now c.front.ensures c.in_err-ordinal.ensures)

pub loop-rest-init : goal.loop-rest-init
loop-rest-init c =
    rw c.one-list.ensures
    (first_some c.args.word.now c.front.result.0.now c.front.result.1.now c.in_ok-ordinal.field-0 c.front.ensures c.in_ok-ordinal.ensures, omega arith)

pub returns-in_err-task : goal.returns-in_err-task
returns-in_err-task c =
    let f = c.front-in-len1-up in
    rw c.from_residual-in_err-task.ensures
    (next_none c.args.word.now c.loop-rest.list c.loop-rest.rest.now f.result.0.now f.result.1.now c.loop-rest.invariant.0 c.in-len1-up.len_at_least f.ensures c.in_err-task.ensures)

pub returns-then-len-eq8 : goal.returns-then-len-eq8
returns-then-len-eq8 c =
    let f = c.front-in-len1-up in
    next_many c.args.word.now c.loop-rest.list c.loop-rest.rest.now f.result.0.now f.result.1.now c.loop-rest.invariant.0 c.in-len1-up.len_at_least f.ensures
    c.in_ok-task.task c.in_ok-task.ensures (sym c.len.ensures.len ∙ c.if-len-eq8.true)

pub loop-rest-smaller : goal.loop-rest-smaller
loop-rest-smaller c =
    let f = c.front-in-len1-up in
    left_shorter c.loop-rest.rest.now f.result.0.now f.result.1.now c.in-len1-up.len_at_least f.ensures

pub loop-rest-preserved : goal.loop-rest-preserved
loop-rest-preserved c =
    let f = c.front-in-len1-up in
    let few = c.loop-rest.invariant.1 in
    let n = length-append c.loop-rest.list (c.in_ok-task.task ∷ []) in
    rw c.with-list.ensures (
      next_some c.args.word.now c.loop-rest.list c.loop-rest.rest.now f.result.0.now f.result.1.now c.loop-rest.invariant.0 c.in-len1-up.len_at_least f.ensures c.in_ok-task.task c.in_ok-task.ensures,
      omega (arith, c.len.ensures.len),
    )

pub returns : goal.returns
returns c = no_more c.args.word.now c.loop-rest.list c.loop-rest.rest.now c.loop-rest.invariant.0
    (omega arith) c.loop-rest.invariant.1
