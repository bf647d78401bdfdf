-- What document 01, as requests 2, 3, 5 and 7 amend it, says a right package is, section by section: no order and no numbers of
-- checks.
use Rattle.std.specs.Prelude.{ℕ, zero, suc, ◌+◌, ◌-◌, ◌*◌, ◌%◌, ◌≤◌, ◌<◌, ◌≡◌, ◌⊎◌, ◌≢◌, List, ◌∷◌, [], ◌++◌, Bool, cond, length, get_or, take, drop, eqb, Some}
use Rattle.be.specs.Numbers.{be16_at, be32_at}
use Rattle.strings.specs.Strings.{in_row}
use Rattle.format.specs.declared.section.Section.{Section}
use Rattle.format.specs.declared.section.Structure.{Structure}
use Rattle.format.specs.declared.section.Structure.TheVariants.{Signature, Header}
use Rattle.format.specs.declared.records.IndexRecord.{IndexRecord}
use Rattle.format.specs.Sizes.{package_limit, lead_size}
use Rattle.format.specs.Places.{section_end, in_file}
use Rattle.format.specs.Records.{header_record_at}
use Rattle.entries.specs.declared.types.ElementSize.TheVariants.{Bytes, ToZero}
use Rattle.entries.specs.Types.{element_size}
use Rattle.entries.specs.Entries.{record_at}
use Rattle.structure.specs.Structure.{section_at}
use Rattle.structure.specs.Sound.{SoundHeader}
use Rattle.catalogue.specs.declared.Line.{Line}
use Rattle.catalogue.specs.declared.Status.TheVariants.{Optional}
use Rattle.catalogue.specs.Lists.{Listed}
use Rattle.files.specs.Files.{file_tags}
use Rattle.texts.specs.Texts.{linux, bin_sh}
use Rattle.message_digest.specs.Md5.{digest}
use Rattle.book.specs.Kinds.{knows}
use Rattle.book.specs.Book.{book_limit}
use Rattle.book.specs.Rows.{BookRecord, IsRow, stated_sum, LawfulRow}
use Rattle.reading.specs.Editions.{Edition, batch_tag}
use Rattle.reading.specs.Reading.{book_in}

-- "Lead": bytes 0-3 are ED AB EE DB; 4 is 3; 5 is 0; 6-7 (type) are 0; 10-75 (name) hold at least one zero byte; 76-77
-- (system) are 1; 78-79 (signature type) are 5
pub record LawfulLead (s : List ℕ) : Type 0 where
  pub magic : be32_at s 0 ≡ 0xEDABEEDB
  pub major : get_or s 4 0 ≡ 3
  pub minor : get_or s 5 0 ≡ 0
  pub type' : be16_at s 6 ≡ 0
  pub name : (i : ℕ) × (10 ≤ i) × (i ≤ 75) × (get_or s i 0 ≡ 0)
  pub system : be16_at s 76 ≡ 1
  pub signature_type : be16_at s 78 ≡ 5

-- how many of n bytes from a place on are zero
unfoldable pub zeros_from : List ℕ → ℕ → ℕ → ℕ
zeros_from s zero at = 0
zeros_from s (suc n) at = cond (eqb (get_or s at 0) 0) 1 0 + zeros_from s n (at + 1)

-- "Header structure": an index record of the signature or the header
pub record LawfulRecord (structure : Structure) (s : List ℕ) (section : Section) (e : IndexRecord) : Type 0 where
  -- types 0, 5 and 10 upward are refused
  pub type' : (1 ≤ e.ty) × (e.ty ≢ 5) × (e.ty ≤ 9)
  -- count is at least 1, and exactly 1 for type 6 and, in the signature, for type 9
  pub count : 1 ≤ e.count
  pub single : e.ty ≡ 6 → e.count ≡ 1
  pub translated : structure ≡ Signature → e.ty ≡ 9 → e.count ≡ 1
  -- offset is a multiple of the alignment, which is the element size
  pub aligned : (n : ℕ) → element_size e.ty ≡ Some (Bytes n) → e.offset.0 % n ≡ 0
  -- data of a fixed size is size × count bytes from offset and ends at or before hsize
  pub fixed : (n : ℕ) → element_size e.ty ≡ Some (Bytes n) → e.offset.0 + n * e.count ≤ section.hsize
  -- string data is count strings in a row, each ended by a zero byte inside the store
  pub strings : element_size e.ty ≡ Some ToZero
      → e.count ≤ zeros_from s (section.hsize - e.offset.0) (in_file section e.offset)

-- a structure in the package: its header record, its records, and within one structure no tag occurs twice
pub record LawfulStructure (structure : Structure) (s : List ℕ) (start : ℕ) : Type 0 where
  pub header : SoundHeader (length s) start (header_record_at s start)
  pub records : (i : ℕ) → i < (section_at s start).nindex
      → LawfulRecord structure s (section_at s start) (record_at s (section_at s start) i)
  pub tags : (i j : ℕ) → i < (section_at s start).nindex → j < i
      → (record_at s (section_at s start) j).tag ≢ (record_at s (section_at s start) i).tag

-- some record of a structure has a tag
abbrev pub HasTag : List ℕ → Section → ℕ → Type 0
HasTag s section tag = (i : ℕ) × (i < section.nindex) × ((record_at s section i).tag ≡ tag)

-- every record of a structure that has a tag is as a rule says
abbrev pub WhereTagged : List ℕ → Section → ℕ → (IndexRecord → Type 0) → Type 0
WhereTagged s section tag Rule = (i : ℕ) → i < section.nindex → (record_at s section i).tag ≡ tag → Rule (record_at s section i)

abbrev pub HasCount : List ℕ → Section → ℕ → ℕ → Type 0
HasCount s section tag n = WhereTagged s section tag (λ (e : IndexRecord). e.count ≡ n)

-- two tags of a structure, where both are present, have one count
abbrev pub SameCount : List ℕ → Section → ℕ → ℕ → Type 0
SameCount s section tag other = WhereTagged s section other (λ (e : IndexRecord). HasCount s section tag e.count)

-- "Catalogue": "Required" must be present; a blank count (None) is any, a printed one is exact
pub record LawfulLine (s : List ℕ) (section : Section) (line : Line) : Type 0 where
  pub required : line.status ≢ Optional → HasTag s section line.tag
  pub type' : WhereTagged s section line.tag (λ (e : IndexRecord). e.ty ≡ line.ty)
  pub count : (n : ℕ) → line.count ≡ Some n → HasCount s section line.tag n

-- every line that an edition has for a structure
abbrev pub LinesIn : List ℕ → Section → List Line → Type 0
LinesIn s section lines = (line : Line) → Listed line lines → LawfulLine s section line

abbrev pub LawfulLines : Edition → List ℕ → Section → Section → Type 0
LawfulLines edition s signature header = LinesIn s signature edition.signature × LinesIn s header edition.header

-- "Groups": one tag needs another
abbrev pub Needs : List ℕ → Section → ℕ → ℕ → Type 0
Needs s section tag other = HasTag s section tag → HasTag s section other

-- all or none of three tags present, counts equal to the leader's
pub record LawfulLed (s : List ℕ) (header : Section) (leader a b c : ℕ) : Type 0 where
  pub whole : HasTag s header a ⊎ HasTag s header b ⊎ HasTag s header c
      → (HasTag s header a × HasTag s header b × HasTag s header c)
  pub counts : SameCount s header a leader × SameCount s header b leader × SameCount s header c leader

-- a rule for each of a list
abbrev pub Each : {A : Type 0} → List A → (A → Type 0) → Type 0
Each [] Rule = Unit
Each (one ∷ rest) Rule = Rule one × Each rest Rule

-- with N the count of 1028: if 1027 is present its count is N and none of 1116 to 1118 is present
abbrev pub OldNames : List ℕ → Section → Type 0
OldNames s header =
    (SameCount s header 1027 1028)
    × (HasTag s header 1116 → ⊥) × (HasTag s header 1117 → ⊥) × (HasTag s header 1118 → ⊥)

-- otherwise those three are present and 1116 and 1117 have count N
abbrev pub NewNames : List ℕ → Section → Type 0
NewNames s header =
    HasTag s header 1116 × HasTag s header 1117 × HasTag s header 1118
    × SameCount s header 1116 1028 × SameCount s header 1117 1028

-- every type 9 entry of the header has at most as many strings as tag 100
abbrev pub LawfulLocales : List ℕ → Section → Type 0
LawfulLocales s header =
    (i : ℕ) → i < header.nindex → (record_at s header i).ty ≡ 9
    → WhereTagged s header 100 (λ (e : IndexRecord). (record_at s header i).count ≤ e.count)

pub record LawfulGroups (s : List ℕ) (signature header : Section) : Type 0 where
  -- the signature's 1011 needs its 1005; its 1012 needs its 1002
  pub dsa : Needs s signature 1011 1005
  pub rsa : Needs s signature 1012 1002
  -- 1023 to 1026 need 1085 to 1088 respectively
  pub pre_install : Needs s header 1023 1085
  pub post_install : Needs s header 1024 1086
  pub pre_remove : Needs s header 1025 1087
  pub post_remove : Needs s header 1026 1088
  -- with N the count of 1028: each of these that is present has count N
  pub files : Each file_tags (λ (tag : ℕ). SameCount s header tag 1028)
  pub old_names : HasTag s header 1027 → OldNames s header
  pub new_names : (HasTag s header 1027 → ⊥) → NewNames s header
  -- the groups led by 1049 (1048, 1050), 1047 (1112, 1113), 1054 (1053, 1055), 1090 (1114, 1115) and 1081 (1080, 1082)
  pub requires : LawfulLed s header 1049 1048 1049 1050
  pub provides : LawfulLed s header 1047 1047 1112 1113
  pub conflicts : LawfulLed s header 1054 1053 1054 1055
  pub obsoletes : LawfulLed s header 1090 1090 1114 1115
  pub changes : LawfulLed s header 1081 1080 1081 1082
  pub locales : LawfulLocales s header

-- where the data of a record with a tag starts, some bytes stand: of every such record
abbrev pub DataIs : List ℕ → Section → ℕ → List ℕ → Type 0
DataIs s section tag bytes =
    WhereTagged s section tag (λ (e : IndexRecord). take (length bytes) (drop (in_file section e.offset) s) ≡ bytes)

-- a text without zero bytes that ends with "/" (0x2F)
pub record Directory (text : List ℕ) : Type 0 where
  pub whole : (i : ℕ) → i < length text → get_or text i 0 ≢ 0
  pub slash : (front : List ℕ) × (text ≡ front ++ 0x2F ∷ [])

-- the bytes from a place on are so many of them in a row
pub record Directories (s : List ℕ) (at count : ℕ) : Type 0 where
  pub texts : List (List ℕ)
  pub number : length texts ≡ count
  pub bytes : take (length (in_row texts)) (drop at s) ≡ in_row texts
  pub each : Each texts Directory

-- "Texts"
pub record LawfulTexts (s : List ℕ) (header : Section) : Type 0 where
  -- 1021 is "linux"; 1085 to 1088, where present, are "/bin/sh"; each with its zero byte
  pub system : DataIs s header 1021 linux
  pub pre_install : DataIs s header 1085 bin_sh
  pub post_install : DataIs s header 1086 bin_sh
  pub pre_remove : DataIs s header 1087 bin_sh
  pub post_remove : DataIs s header 1088 bin_sh
  -- each 1116 value is below the count of 1118
  pub indexes : WhereTagged s header 1116
      (λ (e : IndexRecord). (k : ℕ) → k < e.count
      → WhereTagged s header 1118 (λ (d : IndexRecord). be32_at s (in_file header e.offset + 4 * k) < d.count))
  -- each string of 1118 ends with "/"
  pub directories : WhereTagged s header 1118
      (λ (e : IndexRecord). Directories s (in_file header e.offset) e.count)

-- "Book": at most 4,096 bytes, which are a row of lawful records
pub record LawfulBook (known : ℕ → Bool) (b : List ℕ) : Type 0 where
  pub size : length b ≤ book_limit
  pub row : List BookRecord
  pub is_row : IsRow b row
  pub lawful : LawfulRow known row

-- the first multiple of a number at or after a place
pub record FirstMultiple (n place start : ℕ) : Type 0 where
  pub multiple : start % n ≡ 0
  pub after : place ≤ start
  pub first : (other : ℕ) → other % n ≡ 0 → place ≤ other → start ≤ other

-- the 32-bit number of every record that has a tag
abbrev pub NumberIs : List ℕ → Section → ℕ → ℕ → Type 0
NumberIs s section tag n = WhereTagged s section tag (λ (e : IndexRecord). be32_at s (in_file section e.offset) ≡ n)

-- the bytes from a place up to another are zero
abbrev pub ZeroBetween : List ℕ → ℕ → ℕ → Type 0
ZeroBetween s from to = (i : ℕ) → from ≤ i → i < to → get_or s i 0 ≡ 0

-- a package of which size, lead and structures are sound
pub record SoundPackage (s : List ℕ) : Type 0 where
  pub most : length s ≤ package_limit
  pub least : lead_size ≤ length s
  pub lead : LawfulLead s
  -- the signature structure starts at S = 96
  pub signature : LawfulStructure Signature s lead_size
  -- the header structure starts at H, the first multiple of 8 at or after the signature's end
  pub H : ℕ
  pub place : FirstMultiple 8 (section_end (section_at s lead_size)) H
  -- the bytes between the signature's end and H are zero
  pub gap : ZeroBetween s (section_end (section_at s lead_size)) H
  pub header : LawfulStructure Header s H

-- a tag has a line
abbrev pub HasLine : ℕ → List Line → Type 0
HasLine tag lines = (line : Line) × Listed line lines × (line.tag ≡ tag)

-- a right package at an edition
pub record LawfulPackage (edition : Edition) (s : List ℕ) : Type 0 where
  pub sound : SoundPackage s
  pub lines : LawfulLines edition s (section_at s lead_size) (section_at s sound.H)
  -- the signature's 1000 is length − H
  pub payload : NumberIs s (section_at s lead_size) 1000 (length s - sound.H)
  pub groups : LawfulGroups s (section_at s lead_size) (section_at s sound.H)
  pub texts : LawfulTexts s (section_at s sound.H)
  -- the signature's 1004 is the MD5 of the bytes from H to the package's end
  pub digested : DataIs s (section_at s lead_size) 1004 (digest (drop sound.H s))
  pub book : LawfulBook (knows edition.kinds) (book_in s (section_at s sound.H))
  -- where the edition has the batch weight's line, the sum of what the book's records state equals its value
  pub batch : HasLine batch_tag edition.header → NumberIs s (section_at s sound.H) batch_tag (stated_sum book.row)
