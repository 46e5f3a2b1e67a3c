-- What words an element is written as, and which element a cell is read as.
use Rattle.std.specs.Prelude.{ℕ, cond, List, [], ◌∷◌, ◌==◌}
use Rattle.std.specs.Int.{w32, cast_unsigned, cast_signed}
use Rattle.cell.specs.Filled.{word}
use Rattle.cell.specs.declared.address.Address.{Address}
use Rattle.cell.specs.declared.cell.Cell.{Cell}
use Rattle.cell.specs.declared.frame.Frame.{Frame}
use Rattle.cell.specs.declared.frame.Frame.TheVariants.{Saved, Back, Mark, In, Out, Hold, Toss, Enter}
use Rattle.cell.specs.declared.name.Name.{Name}
use Rattle.cell.specs.declared.value.Value.{Value}
use Rattle.cell.specs.declared.value.Value.TheVariants.{Empty, Number, Procedure, Continuation}
use Rattle.cell.specs.declared.wind.Wind.{Wind}
use Rattle.cell.specs.declared.wind_number.WindNumber.{WindNumber}

-- the address, the name and the wind number that a word stands for
abbrev pub address_of : ℕ → Address
address_of n = record { 0 = n }

-- a name, by its word
abbrev pub name_of : ℕ → Name
name_of n = record { 0 = n }

-- a wind number, by its word
abbrev pub wind_number_of : ℕ → WindNumber
wind_number_of n = record { 0 = n }

-- the first word of a value tells its kind
abbrev pub value_kind : Value → ℕ
value_kind Empty = 0
value_kind (Number z) = 1
value_kind (Procedure p) = 2
value_kind (Continuation n) = 3

-- the second word of a value; a number is there in two's complement
abbrev pub value_payload : Value → ℕ
value_payload Empty = 0
value_payload (Number z) = cast_unsigned w32 z
value_payload (Procedure p) = p.0
value_payload (Continuation n) = n.0

-- the two words of a value
abbrev pub value_words : Value → List ℕ
value_words v = value_kind v ∷ value_payload v ∷ []

-- the words of a frame: its tag, and then what it holds
abbrev pub frame_words : Frame → List ℕ
frame_words (Saved v) = 1 ∷ value_words v
frame_words (Back p) = 2 ∷ p.0 ∷ []
frame_words (Mark n) = 3 ∷ n.0 ∷ []
frame_words (In before body after) = 4 ∷ before.0 ∷ body.0 ∷ after.0 ∷ []
frame_words Out = 5 ∷ []
frame_words (Hold v) = 6 ∷ value_words v
frame_words (Toss n v) = 7 ∷ n.0 ∷ value_words v
frame_words (Enter n v) = 8 ∷ n.0 ∷ value_words v

-- the words of a wind
abbrev pub wind_words : Wind → List ℕ
wind_words w = w.number.0 ∷ w.before.0 ∷ w.after.0 ∷ []

-- the value of two words; a kind that no value has reads as none
abbrev pub value_in : ℕ → ℕ → Value
value_in kind payload =
    cond (kind == 1) (Number (cast_signed w32 payload))
    (cond (kind == 2) (Procedure (address_of payload))
    (cond (kind == 3) (Continuation (name_of payload))
    Empty))

-- the frame in a cell; a tag that no frame has reads as Out
abbrev pub frame_in : Cell → Frame
frame_in c =
    cond (word c 0 == 1) (Saved (value_in (word c 1) (word c 2)))
    (cond (word c 0 == 2) (Back (address_of (word c 1)))
    (cond (word c 0 == 3) (Mark (name_of (word c 1)))
    (cond (word c 0 == 4) (In (address_of (word c 1)) (address_of (word c 2)) (address_of (word c 3)))
    (cond (word c 0 == 6) (Hold (value_in (word c 1) (word c 2)))
    (cond (word c 0 == 7) (Toss (name_of (word c 1)) (value_in (word c 2) (word c 3)))
    (cond (word c 0 == 8) (Enter (name_of (word c 1)) (value_in (word c 2) (word c 3)))
    Out))))))

-- the wind in a cell
abbrev pub wind_in : Cell → Wind
wind_in c = record { number = wind_number_of (word c 0); before = address_of (word c 1); after = address_of (word c 2) }
