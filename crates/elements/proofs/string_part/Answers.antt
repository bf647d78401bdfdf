use Rattle.elements.proofs.PartLaws as laws
use Rattle.elements.proofs.string_part.Goals as goal

pub returns-in-Some : goal.returns-in-Some
returns-in-Some c = search laws.part_ends

pub returns-in-None : goal.returns-in-None
returns-in-None c = search laws.part_open
