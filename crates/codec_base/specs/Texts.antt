-- What an invalid place is called, and what is wrong there.
use Rattle.std.specs.Prelude.{ℕ, List, codes}
use Rattle.codec_base.specs.declared.error.InvalidAt.{InvalidAt}
use Rattle.codec_base.specs.declared.error.InvalidAt.TheVariants.{Varint, Option, Length, Padding, Location, NonEmptyRange, Target, CompactTarget, Witness, ExtraData}

-- the word for an invalid place
unfoldable pub place_text : InvalidAt → List ℕ
place_text Varint = codes "Varint"
place_text Option = codes "Option"
place_text Length = codes "Length"
place_text Padding = codes "Padding"
place_text Location = codes "Location"
place_text NonEmptyRange = codes "NonEmptyRange"
place_text Target = codes "storage::qmdb::sync::Target"
place_text CompactTarget = codes "storage::qmdb::sync::CompactTarget"
place_text Witness = codes "Witness"
place_text ExtraData = codes "ExtraData"

-- the same word, where it says enough
unfoldable pub fault_text : InvalidAt → List ℕ
fault_text NonEmptyRange = codes "start must be < end"
fault_text Target = codes "range bounds out of valid range"
fault_text CompactTarget = codes "size must be in 1..=MAX_LEAVES"
fault_text Varint = place_text Varint
fault_text Option = place_text Option
fault_text Length = place_text Length
fault_text Padding = place_text Padding
fault_text Location = place_text Location
fault_text Witness = place_text Witness
fault_text ExtraData = place_text ExtraData
