-- `file_reading::read_filters` meets its contract: at each turn what is left of the filters gives the same answer. Assumes nothing.
use Rattle.std.proofs.Common.{◌+◌, ◌*◌, arith}
use Rattle.std.proofs.lemmas.Result.{err_from_is_err_and}
use Rattle.file_reading.proofs.Reader.{filters-turn, kind-cut, kind-bad, registers-cut, filters-end}
use Rattle.file_reading.proofs.read_filters.Goals as goal

pub returns-in_err-field : goal.returns-in_err-field
returns-in_err-field c =
    let p = err_from_is_err_and c.from_residual.result c.from_residual.ensures.1 in
    let cut = c.in_err-field.ensures.err in
    rw (p.1, p.2, cut.0) (kind-cut c.args.file.now c.args.filters _ _ _ (omega arith) cut.1 c.loop-i.invariant)

pub returns-then-file-at-gt-KIND_LIMIT : goal.returns-then-file-at-gt-KIND_LIMIT
returns-then-file-at-gt-KIND_LIMIT c =
    kind-bad c.args.file.now c.args.filters _ _ _ (omega arith) c.in_ok-field.ensures.ok c.if-file-at-gt-KIND_LIMIT.true c.loop-i.invariant

pub returns-in_err-field-2 : goal.returns-in_err-field-2
returns-in_err-field-2 c =
    let p = err_from_is_err_and c.from_residual-in_err-field-2.result c.from_residual-in_err-field-2.ensures.1 in
    let cut = c.in_err-field-2.ensures.err in
    rw (p.1, p.2, cut.0)
    (registers-cut c.args.file.now c.args.filters _ _ _ (omega arith) c.in_ok-field.ensures.ok c.if-file-at-gt-KIND_LIMIT.false cut.1 c.loop-i.invariant)

pub loop-i-preserved : goal.loop-i-preserved
loop-i-preserved c =
    filters-turn c.args.file.now c.args.filters _ _ (1 + 9 * c.loop-i.i) _ _ (omega arith) (omega arith) c.if-file-at-gt-KIND_LIMIT.false
    (omega (arith, c.in_ok-field-2.ensures.ok)) c.loop-i.invariant

pub returns : goal.returns
returns c = filters-end c.args.file.now c.args.filters _ _ _ _ (omega arith) (omega arith) c.loop-i.invariant
