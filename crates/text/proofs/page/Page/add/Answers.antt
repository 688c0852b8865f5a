-- `text::Page::add` meets its contract: what is put behind the bytes in use is in use after it. Assumes nothing.
use Rattle.std.proofs.Common.{ap}
use mathlib.Core.Path.{◌∙◌}
use Rattle.text.specs.Page.{added}
use Rattle.text.proofs.Pages.{page-within, page-added}
use Rattle.text.proofs.page.Page.add.Goals as goal

pub invariant_of-self : goal.invariant_of-self
invariant_of-self g c = let put = c.put_text-self-inside in page-within g.row.N c.self.inside.used c.args.text.now c.self.inside.bytes c.self.told c.self.invariant put.result put.ensures.value

pub returns : goal.returns
returns g c =
    let put = c.put_text-self-inside in
    let behind = page-added g.row.N c.self.inside.used c.args.text.now c.self.inside.bytes c.self.told c.self.invariant put.result put.new.out put.ensures.value put.ensures.out_after in
    behind ∙ ap (λ page. added g.row.N page c.args.text.now) c.self.view_is
