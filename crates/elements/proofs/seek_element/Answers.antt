use Rattle.elements.proofs.PartLaws as laws
use Rattle.elements.proofs.seek_element.Goals as goal

pub element_of-requires : goal.element_of-requires
element_of-requires c = let w = c.in_ok-entry.was in search laws.seek_bounded
