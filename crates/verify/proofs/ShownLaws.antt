-- The digest as the public look-up shows it: digest_shown.
use Rattle.lookups.proofs.SeekLaws.{found_shown}
use Rattle.verify.specs.Shown.{DigestShown}

pub digest_shown : DigestShown
digest_shown s h = found_shown s 0 1004 7 h
