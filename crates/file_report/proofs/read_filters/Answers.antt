-- `file_report::read_filters` meets its contract: at each turn one filter more is held. Assumes nothing.
use Rattle.std.proofs.Common.{◌+◌, ◌*◌, ◌∙◌, sym, ap, ap₂, ◌++◌, ◌∷◌, [], take, add-one, arith}
use lib.ListN.{set, length-set}
use lib.Seq.{take-suc-set}
use Rattle.laws.specs.Tabulate.{tabulate}
use Rattle.laws.proofs.Tabulate.{tabulate-snoc}
use Rattle.file_reading.specs.Format.{filter_bytes}
use Rattle.file_report.specs.Held.{held_at}
use Rattle.file_report.proofs.Frames.{within}
use Rattle.file_report.proofs.read_filters.Goals as goal

pub overflow_mul-i : goal.overflow_mul-i
overflow_mul-i c = let fits = within c.args.file.now c.args.sections c.requires in omega (arith, fits.few-filters)

pub overflow_add-sections : goal.overflow_add-sections
overflow_add-sections c =
    let fits = within c.args.file.now c.args.sections c.requires in
    omega (arith, fits.few-filters, fits.start-low)

pub filter_at-requires : goal.filter_at-requires
filter_at-requires c =
    let fits = within c.args.file.now c.args.sections c.requires in
    (omega (arith, fits.filters-within), fits.kinds c.loop-i.i c.loop-i-test.true)

pub offset_bounds-held-i : goal.offset_bounds-held-i
offset_bounds-held-i c = let fits = within c.args.file.now c.args.sections c.requires in omega (arith, fits.few-filters)

pub bounds-held-i : goal.bounds-held-i
bounds-held-i c = let fits = within c.args.file.now c.args.sections c.requires in omega (arith, fits.few-filters)

pub loop-i-preserved : goal.loop-i-preserved
loop-i-preserved c =
    let fits = within c.args.file.now c.args.sections c.requires in
    let held = λ (k : _). held_at c.args.file.now (c.args.sections.filters_start + filter_bytes * k) in (
      ap (λ n. take n (set c.loop-i.held c.loop-i.i c.filter_at.result)) (add-one c.loop-i.i)
          ∙ take-suc-set c.loop-i.held c.loop-i.i c.filter_at.result (omega (arith, fits.few-filters))
          ∙ ap₂ (λ xs x. xs ++ (x ∷ [])) c.loop-i.invariant.0 c.filter_at.ensures
          ∙ sym (tabulate-snoc c.loop-i.i held) ∙ ap (λ n. tabulate n held) (sym (add-one c.loop-i.i)),
      simp length-set c.loop-i.invariant.1,
    )
