use Rattle.cell_samples.proofs.Common.{half_frame_body, IsLaying}
use Rattle.cell_samples.proofs.page_cycle.laid.Given as goal

abbrev pub invariant-loop-page : goal.invariant-loop-page
invariant-loop-page l = IsLaying (half_frame_body l.fn.rate) l.form l.pages l.page-index l.layout l.bits
