use Rattle.meets.proofs.MeetLaws as laws
use Rattle.meets.proofs.meets.Goals as goal

pub decide-requires : goal.decide-requires
decide-requires c = let w = c.in_ok-wanted.was in (search laws.sound_here, search laws.header_here, search laws.versions_here)
