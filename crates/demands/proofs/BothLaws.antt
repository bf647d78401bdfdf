-- Two readings of one package, at two editions: read_both_lem.
use Prim.Native.Nat.{ℕ, ◌≤◌, ◌<◌}
use mathlib.Core.Path.{◌≡◌}
use mathlib.Core.List.{List}
use Rattle.book.specs.Kinds.{last_edition}
use Rattle.reading.specs.Buffers.{Form, ReadInto}
use Rattle.demands.specs.Demands.{PairAgrees, ReadBothInto}
use Rattle.demands.proofs.Demand3.{demand3}
use Rattle.format.specs.Verdicts.{Answer}

module _ (form : Form) (earlier later : ℕ) (s before before' : List ℕ) {first second : Answer} {after after' : List ℕ}
    (p : ReadInto form earlier s before first after) (q : ReadInto form later s before' second after') where
  agree : 1 ≤ earlier → earlier < later → later ≤ last_edition → before ≡ before'
      → PairAgrees earlier later s first second after after'
  agree l m h e = rw (p.answered, p.buffer, q.answered, q.buffer, ← e) (demand3 form earlier later l m h s before)

  pub read_both_lem : ReadBothInto form earlier later s before before' first second after after'
  read_both_lem = record { at_first = p; at_second = q; agree = agree }
