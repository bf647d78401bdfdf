use Rattle.required.proofs.VersionLaws as laws
use Rattle.required.proofs.among.Goals as goal

pub number_of-requires : goal.number_of-requires
number_of-requires c = let e = c.in-Some.is in (search laws.names_sound, search laws.names_strings)
