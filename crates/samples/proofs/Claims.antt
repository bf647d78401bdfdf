-- The samples marked P, those of requests 2, 3, 5 and 7 and of check 13, and the smallest package that is written, by
-- computation.
use lib.Dec.{T}
use Rattle.be.specs.Numbers.{be16_at, be32_at}
use Rattle.be.specs.Bytes.{same_bytes}
use Rattle.strings.specs.Strings.{strings_from}
use Rattle.format.specs.Verdicts.{check, both, run_from}
use Rattle.entries.specs.Types.{element_size}
use Rattle.entries.specs.Entries.{count_right, data_end, entry_check}
use Rattle.among.specs.Among.{tag_among, first_from}
use Rattle.repeats.specs.Repeats.{tag_before, repeated_in, repeated_among}
use Rattle.structure.specs.Structure.{header_check, structure_check}
use Rattle.index.specs.Lookup.{find_from}
use Rattle.gap.specs.Gap.{zero_check, gap_check}
use Rattle.package.specs.Lead.{lead_check}
use Rattle.package.specs.Package.{size_check, structures_check, package_check}
use Rattle.locales.specs.Locales.{locale_check}
use Rattle.book.specs.Kinds.{kind_table, kinds_in}
use Rattle.book.specs.Book.{places_from, lot_from, weight_lawful, record_check, records_check, length_check, book_check}
use Rattle.book.specs.Doses.{doses_by}
use Rattle.buffer.specs.Buffer.{numbers_of}
use Rattle.words.specs.Words.{word_at, low_first, rotated, auxiliary, increased}
use Rattle.rounds.specs.Table.{table}
use Rattle.rounds.specs.Rounds.{assigned, operated, operations, performed, block, blocks}
use Rattle.message_digest.specs.Md5.{padding_bytes, length_bytes, padded, start, output, digest}
use Rattle.verify.specs.Digests.{digest_check}
use Rattle.put.specs.Puts.{bytes_of, four_bytes}
use Rattle.layout.specs.Layout.{offset_for, index_from, store_from, structure_bytes, signature_of, lead_bytes, written}
use Rattle.samples.specs.Samples.{samples, all_right}
use Rattle.samples.specs.Written.{smallest_right}

pub samples_right : T (all_right samples)
unfolding be16_at be32_at same_bytes strings_from check both run_from element_size count_right data_end tag_before entry_check header_check
    structure_check locale_check kind_table kinds_in places_from lot_from weight_lawful record_check records_check length_check book_check
    doses_by numbers_of
    find_from word_at low_first rotated auxiliary increased table assigned operated operations performed block blocks padding_bytes
    length_bytes padded start output digest digest_check bytes_of tag_among repeated_in repeated_among first_from
    zero_check gap_check lead_check size_check structures_check package_check
samples_right = tt

pub smallest_right_lem : T smallest_right
unfolding same_bytes element_size bytes_of four_bytes offset_for index_from store_from structure_bytes signature_of lead_bytes written
    word_at low_first rotated auxiliary increased table assigned operated operations performed block blocks padding_bytes
    length_bytes padded start output digest
smallest_right_lem = tt
