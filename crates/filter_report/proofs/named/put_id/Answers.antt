-- `filter_report::named::put_id` meets its contract: at each turn one digit more stands behind the others. Assumes nothing.
use Rattle.std.proofs.Common.{arith, ◌≡◌, ◌∙◌, ap, ℕ, List, [], ◌∷◌, ◌++◌, ◌≤◌, ◌+◌, length, take}
use Rattle.laws.specs.Ascii.{ascii}
use Rattle.std.proofs.lemmas.List.{length-take}
use Rattle.filter_report.specs.Listed.{last_digits}
use Rattle.filter_report.proofs.Page.{added_is, behind, long, turn}
use Rattle.filter_report.proofs.Ids.{digits-turn, digits-all, id-is}
use Rattle.filter_report.proofs.named.put_id.Goals as goal

pub loop-i-preserved : goal.loop-i-preserved
loop-i-preserved c =
    let loop = c.loop-i in
    let width = c.hex_width-width.result in
    let id = c.args.id in
    let start = c.add.new.self in
    let front = take loop.i (last_digits width id) in
    let mark = added_is c.args.page.now (ascii " 0x") start (omega (arith, c.requires)) c.add.ensures in
    let short : length loop.page + 1 ≤ 512 = omega (arith, c.requires, long c.args.page.now (ascii " 0x") start mark, long start front loop.page loop.invariant, length-take loop.i (last_digits width id), c.loop-i-test.true, c.hex_width-width.ensures.1) in
    turn start front loop.page (c.digit_at.result ∷ []) c.add-in-loop-i.new.self (take (loop.i + 1) (last_digits width id)) loop.invariant
    (added_is loop.page (c.digit_at.result ∷ []) c.add-in-loop-i.new.self short c.add-in-loop-i.ensures)
    (ap (λ (d : ℕ). front ++ (d ∷ [])) c.digit_at.ensures ∙ digits-turn width id loop.i c.loop-i-test.true)

pub returns : goal.returns
returns c =
    let loop = c.loop-i in
    let width = c.hex_width-width.result in
    let id = c.args.id in
    let start = c.add.new.self in
    let digits = last_digits width id in
    let mark = added_is c.args.page.now (ascii " 0x") start (omega (arith, c.requires)) c.add.ensures in
    let all : loop.i ≡ width = omega (arith, loop.auto.i-end, c.loop-i-test.false) in
    loop.invariant
    ∙ ap (λ (n : ℕ). start ++ take n digits) all
    ∙ ap (λ (l : List ℕ). start ++ l) (digits-all width id)
    ∙ behind c.args.page.now (ascii " 0x") start digits mark
    ∙ ap (λ (l : List ℕ). c.args.page.now ++ l) (id-is c.args.extended id width c.hex_width-width.ensures.0)
