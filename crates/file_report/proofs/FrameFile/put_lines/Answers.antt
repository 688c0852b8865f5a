-- `file_report::FrameFile::put_lines` meets its contract: at each turn one line more is laid, and its frame is counted or not. Assumes nothing.
use Rattle.std.proofs.Common.{◌+◌, ◌≤◌, length, arith}
use lib.ListN.{length-set}
use Rattle.text.specs.Decimal.{decimal}
use Rattle.text.proofs.Put.{place-put, text-put}
use Rattle.file_report.specs.Held.{row_at}
use Rattle.file_report.proofs.Marks.{line-laid}
use Rattle.file_report.proofs.Frames.{within, long-none, long-turn, line-room, lines_none, lines-turn, count_none, count-turn, count-few}
use Rattle.file_report.proofs.FrameFile.put_lines.Goals as goal

pub loop-index-init : goal.loop-index-init
loop-index-init c =
    let file = c.args.self.now in (
      long-none file.sections.filters,
      count_none file.bytes.now file.sections,
      lines_none file.bytes.now file.sections c.args.out.now,
    )

pub bounds-out-space : goal.bounds-out-space
bounds-out-space c =
    let sections = c.args.self.now.sections in
    let room = line-room sections.filters c.loop-index.index sections.frames c.loop-index-test.true in
    let fits : c.loop-index.at + length (decimal c.loop-index.index) ≤ length c.loop-index.out = omega (arith, room, c.loop-index.auto.out) in
    let place = place-put c.loop-index.at _ (decimal c.loop-index.index) c.loop-index.out c.put_decimal-space.ensures.value fits in
    omega (arith, place, room, c.loop-index.auto.out, c.put_decimal-space.auto.out)

pub overflow_add-space : goal.overflow_add-space
overflow_add-space c =
    let sections = c.args.self.now.sections in
    let room = line-room sections.filters c.loop-index.index sections.frames c.loop-index-test.true in
    let fits : c.loop-index.at + length (decimal c.loop-index.index) ≤ length c.loop-index.out = omega (arith, room, c.loop-index.auto.out) in
    let place = place-put c.loop-index.at _ (decimal c.loop-index.index) c.loop-index.out c.put_decimal-space.ensures.value fits in
    omega (arith, place, room, c.loop-index.auto.out, c.put_decimal-space.auto.out)

pub put_marks-any-requires : goal.put_marks-any-requires
put_marks-any-requires c =
    let sections = c.args.self.now.sections in
    let room = line-room sections.filters c.loop-index.index sections.frames c.loop-index-test.true in
    let fits : c.loop-index.at + length (decimal c.loop-index.index) ≤ length c.loop-index.out = omega (arith, room, c.loop-index.auto.out) in
    let place = place-put c.loop-index.at _ (decimal c.loop-index.index) c.loop-index.out c.put_decimal-space.ensures.value fits in
    (c.loop-index-test.true, simp length-set (omega (arith, place, room, c.loop-index.auto.out, c.put_decimal-space.auto.out)))

pub overflow_add-count : goal.overflow_add-count
overflow_add-count c =
    let file = c.args.self.now in
    let fits = within file.bytes.now file.sections file.is_read in
    let next = count-turn file.bytes.now file.sections c.loop-index.index _ _ _ c.loop-index.invariant.1 c.put_marks-any.ensures.0 c.from-count.ensures in
    omega (arith, next, count-few file.bytes.now file.sections (c.loop-index.index + 1), fits.few-frames)

pub loop-index-preserved : goal.loop-index-preserved
loop-index-preserved c =
    let file = c.args.self.now in
    let sections = file.sections in
    let index = c.loop-index.index in
    let room = line-room sections.filters index sections.frames c.loop-index-test.true in
    let fits : c.loop-index.at + length (decimal index) ≤ length c.loop-index.out = omega (arith, room, c.loop-index.auto.out) in
    let place = place-put c.loop-index.at _ (decimal index) c.loop-index.out c.put_decimal-space.ensures.value fits in
    let number = text-put c.loop-index.at (decimal index) c.loop-index.out _ c.put_decimal-space.ensures.out_after fits in
    let line = line-laid (row_at file.bytes.now sections index) index c.loop-index.at _ c.loop-index.out _ _
    (omega (arith, room, c.loop-index.auto.out)) place number c.put_marks-any.ensures.1 in (
      omega (arith, place, long-turn sections.filters index, c.width-width.ensures.0),
      count-turn file.bytes.now sections index _ _ _ c.loop-index.invariant.1 c.put_marks-any.ensures.0 c.from-count.ensures,
      lines-turn file.bytes.now sections index c.loop-index.at c.args.out.now _ _ c.loop-index.invariant.0 c.loop-index.invariant.2 line,
    )
