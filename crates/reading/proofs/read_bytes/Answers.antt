use Rattle.std.proofs.Common.{refl}
use Rattle.format.proofs.VerdictLaws.{handed}
use Rattle.reading.specs.Buffers.{Form}
use Rattle.reading.proofs.DecideLaws as laws
use Rattle.reading.proofs.read_bytes.Goals as goal

pub returns-in_err-opened : goal.returns-in_err-opened
returns-in_err-opened c =
    let d = laws.unsound_refused _ _ _ c.open_at.ensures c.in_err-opened.was in
    laws.read_refused Form.Bytes _ _ _ d (handed c.from_residual.ensures) refl

pub weigh-requires : goal.weigh-requires
weigh-requires c = laws.small _ _ 0 c.open_at.ensures c.in_ok-opened.was

pub returns-in_err-count : goal.returns-in_err-count
returns-in_err-count c =
    let d = laws.weighing _ _ _ c.open_at.ensures c.in_ok-opened.was c.book-book.ensures c.weigh.ensures in
    laws.read_refused Form.Bytes _ _ _ d (handed c.from_residual-in_err-count.ensures) c.in_err-count.was

pub returns-then-count-eq0 : goal.returns-then-count-eq0
returns-then-count-eq0 c =
    let d = laws.weighing _ _ _ c.open_at.ensures c.in_ok-opened.was c.book-book.ensures c.weigh.ensures in
    laws.read_none Form.Bytes _ _ _ d c.in_ok-count.was c.if-count-eq0.true

pub returns : goal.returns
returns c =
    let d = laws.weighing _ _ _ c.open_at.ensures c.in_ok-opened.was c.book-book.ensures c.weigh.ensures in
    let b = laws.book_here _ _ 0 c.open_at.ensures c.in_ok-opened.was c.book-book.ensures in
    laws.read_accepted Form.Bytes _ _ _ d c.in_ok-count.was b c.write_bytes.ensures
