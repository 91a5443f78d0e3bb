-- Bits that are put into an array, and the offsets file of places in an array.
use Rattle.std.specs.Prelude.{◌≡◌, ℕ, ◌-◌, ◌*◌, ◌<◌, ◌≤◌, Bool, false, List, [], ◌∷◌, ◌++◌, length, take, drop, replicate}
use Rattle.std.specs.Prelude.{get_or, Option, Some, None, Ok}
use Rattle.wg_params.specs.declared.code.Code.{Code}
use Rattle.wg_bits.specs.Bits.{bits_of, low_bits}
use Rattle.wg_bits.specs.Written.{padding}
use Rattle.wg_codes.specs.Words.{word}
use Rattle.wg_offsets.specs.declared.places.TheConstants.{MOST_PLACE}
use Rattle.wg_offsets.specs.Words.{ReadsOffsets}
use Rattle.wg_memory.specs.declared.words.Held.{Held}
use Rattle.wg_memory.specs.declared.writing.Unwritten.{Unwritten}
use Rattle.wg_memory.specs.declared.writing.Unwritten.TheVariants.{First, TooFar, Falls, NoRoom}
use Rattle.wg_memory.specs.Answers as answers

-- the bits that an array holds so far
abbrev pub held_bits : List ℕ → Held → List Bool
held_bits file h = bits_of (take h.bytes file) ++ low_bits h.fill h.part

-- These bits were put behind those before. Behind the bytes that are whole now the array is as before.
pub record IsPut (old new : List ℕ) (before : Held) (put : List Bool) (h : Held) : Type 0 where
  pub long : length new ≡ length old
  pub within : h.bytes ≤ length new
  pub few : h.fill < 8
  pub onward : before.bytes ≤ h.bytes
  pub bits : held_bits new h ≡ held_bits old before ++ put
  pub rest : drop h.bytes new ≡ drop h.bytes old

-- these bits were put, or there is no room for all of them
abbrev pub Puts : List ℕ → List ℕ → Held → List Bool → Option Held → Type 0
Puts old new before put (Some h) = IsPut old new before put h
Puts old new before put None = 8 * length old < length (held_bits old before ++ put)

-- no bits yet
abbrev pub nothing : Held
nothing = record { bytes = 0; part = 0; fill = 0 }

-- zero bits up to a whole byte
abbrev pub filling : List Bool → List Bool
filling bits = replicate (padding (length bits)) false

-- a word for each place: how far it is from the one before
abbrev pub words_from : Code → ℕ → List ℕ → List Bool
words_from c before [] = []
words_from c before (p ∷ ps) = word c (p - before) ++ words_from c p ps

-- the bits of the offsets file of these places: the words, filled up to a whole byte
abbrev pub offsets_bits : Code → List ℕ → List Bool
offsets_bits c places = words_from c 0 places ++ filling (words_from c 0 places)

-- each place is at least the one before, the first at least this one, and none is past the last bit of a file
abbrev pub Climbs : ℕ → List ℕ → Type 0
Climbs before places =
    (i : ℕ) → i < length places
    → (get_or (before ∷ places) i 0 ≤ get_or places i 0) × (get_or places i 0 ≤ MOST_PLACE)

-- The array begins with so many bytes, which are the offsets file of these places: they are read back as these. Behind
-- them it is as before.
pub record HoldsOffsets (c : Code) (n : ℕ) (places old new : List ℕ) (count : ℕ) : Type 0 where
  pub within : count ≤ length new
  pub bits : bits_of (take count new) ≡ offsets_bits c places
  pub reads : ReadsOffsets c n (bits_of (take count new)) (Ok places)
  pub rest : drop count new ≡ drop count old

-- why no offsets file is written
abbrev pub IsUnwritten : Code → List ℕ → ℕ → Unwritten → Type 0
IsUnwritten c places room First = 0 < get_or places 0 0
IsUnwritten c places room TooFar = (i : ℕ) × (MOST_PLACE < get_or places i 0)
IsUnwritten c places room (Falls page) = answers.Falls places page
IsUnwritten c places room NoRoom = 8 * room < length (offsets_bits c places)
