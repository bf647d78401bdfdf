-- The element starts in the package.
use Rattle.elements.proofs.PartLaws as laws
use Rattle.elements.proofs.find_element_answer.Goals as goal

pub overflow_cast-result : goal.overflow_cast-result
overflow_cast-result c = let w = c.in_ok-entry.was in search laws.element_fits
