-- 01, The farm file, as statements about a file's records: what a value may be, what one record says, which records are
-- a herd's, and which farm they say. Which records a file has is the grammar of crate `grammar`. Nothing here goes
-- through a file; proofs/Accepts.antt shows that the reader accepts exactly the files that keep these rules, each as
-- the farm that its records say. To be believed; the limits stand here a second time on purpose, apart from those that
-- the code goes by.
use Rattle.std.specs.Prelude.{ℕ, ◌-◌, ◌<◌, ◌≤◌, ◌≡◌, List, [], ◌∷◌, ◌++◌, ℤ, pos, nat_abs, ◌-ℤ◌, length, get_or}
use Rattle.std.specs.Prelude.{replicate}
use Rattle.base.specs.Text.{bytes}
use Rattle.base.specs.Part.{lowered}
use Rattle.base.specs.Each.{Each}
use Rattle.grammar.specs.Grammar.{FileOf}
use Rattle.numbers.specs.Numbers.{IsNumber}
use Rattle.names.specs.declared.ValueList.{ValueList as NameList}
use Rattle.names.specs.Names.{names_of, size_of}
use Rattle.inputs.specs.declared.Kind.{Kind}
use Rattle.inputs.specs.declared.Form.{Form}
use Rattle.inputs.specs.declared.Form.TheVariants.{Number, OrStandard, NoStandard, Signed as ASigned, OneOf}
use Rattle.inputs.specs.Inputs.{count_of, row_at, form_of}
use Rattle.farm.specs.declared.Given.{Given}
use Rattle.farm.specs.declared.Given.TheVariants.{Standard, Value, Signed}
use Rattle.farm.specs.declared.Herd.{Herd}
use Rattle.farm.specs.declared.Farm.{Farm}
use Rattle.farm.specs.Limits.{slots, herds_most}
use Rattle.farm.specs.Labels.{label_of}
use Rattle.farm.specs.Herds.{no_slot, no_herd}
use Rattle.limits.specs.declared.Limits.{Limits}
use Rattle.limits.specs.declared.Source.{Source}
use Rattle.limits.specs.declared.Source.TheVariants.{StandardInput, Cooperative}
use Rattle.herd_tests.specs.Tests.{labels_of}
use Rattle.first_refusal.specs.Records.{Record}
use Rattle.rules_theorems.specs.Lists.{Some, Apart, Pairs}

-- ---- limits

-- "The label has 1 to 16 bytes"
abbrev pub label_most : ℕ
label_most = 16

-- "at most 65,536 bytes" and "At most 64 herds", which "the program on standard input keeps" (02, W12); of a
-- cooperative's file there "up to 512" herds, and "the file limit becomes 262,144 bytes"
unfoldable pub allowed : Source → Limits
allowed StandardInput = record { bytes = 65536; herds = 64 }
allowed Cooperative = record { bytes = 262144; herds = 512 }

-- ---- one record

-- "The label has 1 to 16 bytes from 32 to 126, byte 34 excepted."
pub record LabelByte (b : ℕ) : Type 0 where
  pub low : 32 ≤ b
  pub high : b ≤ 126
  pub no_quote : b ≡ 34 → ⊥

pub record GoodLabel (label : List ℕ) : Type 0 where
  pub some : 1 ≤ length label
  pub most : length label ≤ label_most
  pub bytes : Each LabelByte label

-- the module path m and the input name n are those of the input of this kind and slot
pub record Names (m n : List ℕ) (kind : Kind) (slot : ℕ) : Type 0 where
  pub inside : slot < count_of kind
  pub path : m ≡ bytes (row_at kind slot).path
  pub name : n ≡ bytes (row_at kind slot).name

-- "`standard`, in any letter case"
abbrev pub IsStandard : List ℕ → Type 0
IsStandard text = lowered text ≡ bytes "standard"

-- a text is one of the names of a list, byte for byte, at this place of it
pub record IsName (names : NameList) (text : List ℕ) (place : ℕ) : Type 0 where
  pub inside : place < size_of names
  pub name : text ≡ bytes (get_or (names_of names) place "")

-- 02, W3, a whole number that may be below zero, "with a leading `-`" ("`-0` is unreadable")
pub data IsSigned : List ℕ → ℤ → Type 0 where
  not_below : {text : List ℕ} {v : ℕ} → IsNumber text 0 v → IsSigned text (pos v)
  behind_minus : {text : List ℕ} {v : ℕ} → IsNumber text 0 v → 0 < v → IsSigned (bytes "-" ++ text) (pos 0 -ℤ pos v)

-- what a text says as the value of an input of this form: a number with no more decimals and no larger than it allows,
-- one that may be below zero and is no further from it, `standard` where it may stand, or a name of its list
pub data ValueIs : Form → List ℕ → Given → Type 0 where
  number : {text : List ℕ} {decimals most v : ℕ} → IsNumber text decimals v → v ≤ most
      → ValueIs (Number decimals most) text (Value v)
  or_standard : {text : List ℕ} {decimals most v : ℕ} → IsNumber text decimals v → v ≤ most
      → ValueIs (OrStandard decimals most) text (Value v)
  no_standard : {text : List ℕ} {decimals most v : ℕ} → IsNumber text decimals v → v ≤ most
      → ValueIs (NoStandard decimals most) text (Value v)
  standard : {text : List ℕ} {decimals most : ℕ} → IsStandard text → ValueIs (OrStandard decimals most) text Standard
  signed : {text : List ℕ} {most : ℕ} {v : ℤ} → IsSigned text v → nat_abs v ≤ most
      → ValueIs (ASigned most) text (Signed v)
  name : {text : List ℕ} {names : NameList} {place : ℕ} → IsName names text place
      → ValueIs (OneOf names) text (Value place)

-- a record says that the herd of this label has this value for this input: "Each record has four fields: herd label,
-- module path, input name, value"
pub data RecordSays : Record → List ℕ → Kind → ℕ → Given → Type 0 where
  says : {label path name value : List ℕ} {kind : Kind} {slot : ℕ} {given : Given} → GoodLabel label
      → Names path name kind slot → ValueIs (form_of kind slot) value given
      → RecordSays (label ∷ path ∷ name ∷ value ∷ []) label kind slot given

-- ---- a herd

-- a record gives the herd this input: it has the herd's label, the input is one of the herd's kind, and the herd's slot
-- for it has the value that the record says
pub record Gives (h : Herd) (cs : Record) (slot : ℕ) : Type 0 where
  pub label : List ℕ
  pub given : Given
  pub says : RecordSays cs label h.kind slot given
  pub own : h.label ≡ label_of label
  pub has : get_or h.slots slot no_slot ≡ record { given = given }

-- records of one herd, in any order: one at least, each gives the herd an input, no two the same; a slot for which none
-- stands says nothing
pub record PartOf (rs : List Record) (h : Herd) : Type 0 where
  pub inputs : List ℕ
  pub some : 1 ≤ length rs
  pub each : Pairs (Gives h) rs inputs
  pub once : Apart inputs
  pub room : length h.slots ≡ slots
  pub rest : (slot : ℕ) → Each (λ i. i ≡ slot → ⊥) inputs → get_or h.slots slot no_slot ≡ no_slot

-- all the records of a herd: "all must be given once"
pub record HerdOf (rs : List Record) (h : Herd) : Type 0 where
  pub part : PartOf rs h
  pub all : (slot : ℕ) → slot < count_of h.kind → Some (λ i. i ≡ slot) part.inputs

-- ---- a farm

-- "A herd's records stand together": the records of each herd, by R, one herd after the other
pub data StandTogether (R : List Record → Herd → Type 0) : List Record → List Herd → Type 0 where
  none : StandTogether R [] []
  more : {rs rest : List Record} {h : Herd} {hs : List Herd} → R rs h → StandTogether R rest hs
      → StandTogether R (rs ++ rest) (h ∷ hs)

-- the farm of these herds, in this order; the places behind them, for which a farm's record has room, say nothing
abbrev pub farm_of : List Herd → Farm
farm_of hs = record { herds = hs ++ replicate (herds_most - length hs) no_herd; count = length hs }

-- records say a farm: its herds, no more than allowed and no two with one label
pub record FarmOf (limits : Limits) (rs : List Record) (f : Farm) : Type 0 where
  pub herds : List Herd
  pub stand : StandTogether HerdOf rs herds
  pub most : length herds ≤ limits.herds
  pub apart : Apart (labels_of herds)
  pub is : f ≡ farm_of herds

-- ---- a file

-- a file of no more bytes than allowed, whose records say the farm
pub record KeepsRules (limits : Limits) (s : List ℕ) (f : Farm) : Type 0 where
  pub short : length s ≤ limits.bytes
  pub records : List Record
  pub reads : FileOf records s
  pub says : FarmOf limits records f
