-- `filter_report::named::put_front` meets its contract: all entries, or the first of them and two points. Assumes nothing.
use Rattle.std.proofs.Common.{arith, ◌∙◌, ap, take, ◌++◌, List, ℕ}
use Rattle.laws.specs.Ascii.{ascii}
use Rattle.filter_report.specs.Listed.{ids_text}
use Rattle.filter_report.proofs.Page.{added_is, behind, long}
use Rattle.filter_report.proofs.Ids.{ids-first, front-few, front-many}
use Rattle.filter_report.proofs.named.put_front.Goals as goal

pub returns-then-list-le-NAMED_LIMIT : goal.returns-then-list-le-NAMED_LIMIT
returns-then-list-le-NAMED_LIMIT c =
    c.put_ids.ensures ∙ ap (λ (l : List ℕ). c.args.page.now ++ l) (front-few c.args.extended c.args.list.now c.if-list-le-NAMED_LIMIT.true)

pub returns-else-list-le-NAMED_LIMIT : goal.returns-else-list-le-NAMED_LIMIT
returns-else-list-le-NAMED_LIMIT c =
    let page = c.args.page.now in
    let list = c.args.list.now in
    let put = c.put_ids-else-list-le-NAMED_LIMIT in
    let ids = ids_text c.args.extended (take 16 list) in
    let first = ids-first c.args.extended list 16 (omega (arith, c.if-list-le-NAMED_LIMIT.false)) in
    added_is put.new.page (ascii " ..") _ (omega (arith, c.requires, first, long page ids put.new.page put.ensures)) c.add.ensures
    ∙ behind page ids put.new.page (ascii " ..") put.ensures
    ∙ ap (λ (l : List ℕ). page ++ l) (front-many c.args.extended list c.if-list-le-NAMED_LIMIT.false)
