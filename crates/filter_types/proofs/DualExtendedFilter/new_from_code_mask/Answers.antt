-- `filter_types::DualExtendedFilter::new_from_code_mask` meets its contract: the words of both, with nothing to refuse. Assumes nothing.
use mathlib.Core.Path.{refl}
use Rattle.filter_types.proofs.Answers.{code-mask-made}
use Rattle.filter_types.proofs.DualExtendedFilter.new_from_code_mask.Goals as goal

pub returns : goal.returns
returns c = code-mask-made _ _ _ _ _ _ refl c.made.ensures c.dual_extended_word.ensures c.dual_extended_word-2.ensures
