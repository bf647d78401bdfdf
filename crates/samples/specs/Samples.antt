-- Document 01, "Bench samples": those marked P, those of requests 2, 3 and 5, and those of check 13, as a single list.
use Rattle.std.specs.Prelude.{List, [], ◌∷◌, ◌++◌, map, Bool, true, ◌&&◌}
use Rattle.samples.specs.Stores as stores
use Rattle.samples.specs.Books as books
use Rattle.samples.specs.Locales as locales
use Rattle.samples.specs.Digests as digests
use Rattle.samples.specs.Tags as tags
use Rattle.samples.specs.Gaps as gaps

pub data Sample : Type 0 where
  Store : stores.Sample → Sample
  Book : books.BookSample → Sample
  Locale : locales.LocaleSample → Sample
  Digest : digests.DigestSample → Sample
  Tags : tags.TagsSample → Sample
  Gap : gaps.GapSample → Sample
  Package : gaps.PackageSample → Sample

abbrev pub samples : List Sample
samples =
    map Book books.books ++ map Store stores.samples ++ map Locale locales.locales ++ map Digest digests.digests
    ++ map Tags tags.tags ++ map Gap gaps.gaps ++ map Package gaps.packages

abbrev pub is_right : Sample → Bool
is_right (Store sample) = stores.is_right sample
is_right (Book sample) = books.book_right sample
is_right (Locale sample) = locales.locale_right sample
is_right (Digest sample) = digests.digest_right sample
is_right (Tags sample) = tags.tags_right sample
is_right (Gap sample) = gaps.gap_right sample
is_right (Package sample) = gaps.package_right sample

abbrev pub all_right : List Sample → Bool
all_right [] = true
all_right (sample ∷ rest) = is_right sample && all_right rest
