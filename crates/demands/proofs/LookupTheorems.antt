-- Look-ups in a package of which size, lead and structures are sound: lookup_finds, lookup_holds.
use Rattle.lookups.proofs.LookupTheorems.{lookup_exact, lookup_shows}
use Rattle.demands.specs.Demands.{LookupFinds, LookupHolds}
use Rattle.demands.proofs.PackageLawful.{sound_exactly}

pub lookup_finds : LookupFinds
lookup_finds s which tag ty = (
  λ h. let k = (lookup_exact s which tag ty).0 h in ((sound_exactly s).0 k.0, k.1, k.2),
  λ h. (lookup_exact s which tag ty).1 ((sound_exactly s).1 h.0, h.1, h.2),
)

pub lookup_holds : LookupHolds
lookup_holds s which tag ty k sound = lookup_shows s which tag ty k ((sound_exactly s).1 sound)
