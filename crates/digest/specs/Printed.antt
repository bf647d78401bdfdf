-- What the program writes for a message.
use Rattle.std.specs.Prelude.{ℕ, List, cond, leb, length}
use Rattle.message_digest.specs.Ascii.{ascii}
use Rattle.message_digest.specs.Md5.{digest}
use Rattle.text.specs.Hex.{hex_line}

unfoldable pub printed : List ℕ → List ℕ
printed message = cond (leb (length message) 65536) (hex_line (digest message)) (ascii "too large for this program\n")
