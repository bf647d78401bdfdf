use Rattle.required.proofs.VersionLaws as laws
use Rattle.required.proofs.seek_version.Goals as goal

pub returns : goal.returns
returns c = let w = c.in_ok-wanted.was in search laws.version_here
