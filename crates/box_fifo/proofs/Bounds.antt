-- The bound on the data of a frame, as the proofs of the code take it. Assumes nothing.
use Rattle.frame_info.proofs.Info.{data-bound}

pub ruleset bounds = (data-bound)
