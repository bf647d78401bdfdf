use Rattle.std.proofs.Common.{rules}
use Rattle.meets.proofs.MeetLaws as laws
use Rattle.meets.proofs.decide.Goals as goal

pub by_number-requires : goal.by_number-requires
by_number-requires c = let e = c.in-Some.is in (search laws.flags_sound, search rules)
