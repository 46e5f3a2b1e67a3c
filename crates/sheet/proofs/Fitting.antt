-- Every code that a sheet is read as fits: its operands are in range, and its labels stand within it.
use Rattle.std.proofs.Common.{◌≡◌, ℕ, ◌+◌, ◌<◌, ◌≤◌, Bool, true, ◌&&◌, eqb, ltb, leb, List, [], ◌∷◌, ◌++◌, length, IfSome, IfOk, Some, None, Ok, Err, Option, Result, refl, subst, arith}
use Rattle.std.specs.List.{AllByRecursion, find}
use Rattle.std.specs.Option.{option_map}
use Rattle.std.proofs.ByRecursion.{All-push, All-weaker}
use Rattle.std.proofs.lemmas.List.{length_push}
use Rattle.std.proofs.lemmas.Result.{IfOk-weaker}
use Rattle.std.proofs.lemmas.Bool.{lt-ltb, ltb-true, le-leb, and_from, and_parts, cond_both}
use Rattle.cell.specs.declared.address.Address.{Address}
use Rattle.code.specs.declared.instruction.Instruction.{Instruction}
use Rattle.code.specs.declared.instruction.Instruction.TheVariants as I
use Rattle.code.specs.declared.register.Register.{Register}
use Rattle.code.specs.Listing.{accepted}
use Rattle.code.specs.Fits.{fits, all_fit, is_register, is_global, reaches}
use Rattle.sheet.specs.declared.draft.Draft.{Draft}
use Rattle.lexer.specs.declared.fault.Fault.{Fault}
use Rattle.lexer.specs.declared.fault.Fault.TheVariants.{BadOperand, BadLabel, TooManyInstructions}
use Rattle.sheet.specs.declared.label.Label.{Label}
use Rattle.lexer.specs.declared.label_name.LabelName.{LabelName}
use Rattle.sheet.specs.declared.mnemonic.Mnemonic.{Mnemonic}
use Rattle.sheet.specs.declared.mnemonic.Mnemonic.TheVariants.{Set, Proc, Load, Store, Add, Sub, Less, Jump, Zero, Push, Pop, Print, Call, Tail, CallCc, CallOnce, Forget, DynamicWind, Return, Stop}
use Rattle.sheet.specs.declared.refusal.SheetRefusal.{SheetRefusal}
use Rattle.sheet.specs.declared.unresolved.Unresolved.{Unresolved}
use Rattle.sheet.specs.Assembly.{Assembly, empty, target, defined, added, by_kind, line_taken}
use Rattle.lexer.specs.Bytes.{same}
use Rattle.lexer.specs.Checks.{◌>>=◌}
use Rattle.lexer.specs.Kinds.{Kind, kind, blank, comment, label as label_kind, instruction as instruction_kind, printable}
use Rattle.lexer.specs.Names.{label_name}
use Rattle.lexer.specs.Number.{magnitude, number}
use Rattle.sheet.specs.Operands.{small, lettered, register, global, label, registers, with_operands, by_word, instruction}
use Rattle.sheet.specs.Reading.{or_refused, assembled, aimed, aimed_at, resolved_by, resolved, resolved_onto}
use Rattle.lexer.specs.Split.{words, word_at}
use Rattle.sheet.specs.Words.{mnemonic, arity}
use Rattle.sheet.proofs.Checked.{IfOk-any, IfOk-cond, IfOk-bind}

-- Operands.

small-below : (limit : ℕ) (r : Result ℕ Fault) → IfOk (small limit r) (λ n. n < limit)
small-below limit (Ok n) = IfOk-cond (λ k. k < limit) (ltb n limit) (Ok n) BadOperand (ltb-true n limit)
small-below limit (Err e) = tt

lettered-below : (letter limit : ℕ) (w : List ℕ) → IfOk (lettered letter limit w) (λ n. n < limit)
lettered-below letter limit [] = tt
lettered-below letter limit (b ∷ bs) = IfOk-cond (λ k. k < limit) (eqb b letter) (small limit (magnitude bs)) BadOperand (λ _. small-below limit (magnitude bs))

abbrev Known : Register → Type 0
Known r = is_register r ≡ true

register_known : (w : List ℕ) → IfOk (register w) Known
register_known w = IfOk-bind (λ n. n < 8) Known (lettered 114 8 w) _ (lettered-below 114 8 w) (λ n h. lt-ltb n 8 h)

global_known : (w : List ℕ) → IfOk (global w) (λ g. is_global g ≡ true)
global_known w = IfOk-bind (λ n. n < 32) (λ g. is_global g ≡ true) (lettered 103 32 w) _ (lettered-below 103 32 w) (λ n h. lt-ltb n 32 h)

abbrev AllKnown : Register × Register × Register → Type 0
AllKnown r = Known r.0 × Known r.1 × Known r.2

registers_known : (a b c : List ℕ) → IfOk (registers a b c) AllKnown
registers_known a b c =
    IfOk-bind Known AllKnown (register a) _ (register_known a) (λ x h.
    IfOk-bind Known AllKnown (register b) _ (register_known b) (λ y k.
    IfOk-bind Known AllKnown (register c) _ (register_known c) (λ z l. (h, k, l))))

-- Instructions. One that waits for a label has address 0, which is within every code.

abbrev pub Sound : Unresolved → Type 0
Sound u = (n : ℕ) → fits n u.instruction ≡ true

zero-reaches : (n : ℕ) → leb 0 n ≡ true
zero-reaches n = le-leb 0 n (omega arith)

three : (x y z : Bool) → x ≡ true → y ≡ true → z ≡ true → (x && (y && z)) ≡ true
three x y z h k l = and_from _ _ h (and_from _ _ k l)

one_register : (i : Register → Instruction) → ((n : ℕ) (r : Register) → Known r → fits n (i r) ≡ true) → (w : List ℕ) → IfOk (register w >>= λ r. Ok (record { instruction = i r; label = None })) Sound
one_register i fit w = IfOk-bind Known Sound (register w) _ (register_known w) (λ r h n. fit n r h)

three-registers : (i : Register → Register → Register → Instruction)
    → ((n : ℕ) (x y z : Register) → Known x → Known y → Known z → fits n (i x y z) ≡ true)
    → (a b c : List ℕ) → IfOk (registers a b c >>= λ r. Ok (record { instruction = i r.0 r.1 r.2; label = None })) Sound
three-registers i fit a b c = IfOk-bind AllKnown Sound (registers a b c) _ (registers_known a b c) (λ r h n. fit n r.0 r.1 r.2 h.0 h.1 h.2)

operands_sound : (m : Mnemonic) (a b c : List ℕ) → IfOk (with_operands m a b c) Sound
operands_sound Set a b c = IfOk-bind Known Sound (register a) _ (register_known a) (λ r h. IfOk-bind (λ _. Unit {0}) Sound (number b) _ (IfOk-any (number b)) (λ z _ n. h))
operands_sound Proc a b c = IfOk-bind Known Sound (register a) _ (register_known a) (λ r h. IfOk-bind (λ _. Unit {0}) Sound (label b) _ (IfOk-any (label b)) (λ l _ n. and_from _ _ h (zero-reaches n)))
operands_sound Load a b c = IfOk-bind Known Sound (register a) _ (register_known a) (λ r h. IfOk-bind (λ g. is_global g ≡ true) Sound (global b) _ (global_known b) (λ g k n. and_from _ _ h k))
operands_sound Store a b c = IfOk-bind (λ g. is_global g ≡ true) Sound (global a) _ (global_known a) (λ g k. IfOk-bind Known Sound (register b) _ (register_known b) (λ r h n. and_from _ _ k h))
operands_sound Add a b c = three-registers I.Add (λ n x y z h k l. three _ _ _ h k l) a b c
operands_sound Sub a b c = three-registers I.Sub (λ n x y z h k l. three _ _ _ h k l) a b c
operands_sound Less a b c = three-registers I.Less (λ n x y z h k l. three _ _ _ h k l) a b c
operands_sound Jump a b c = IfOk-bind (λ _. Unit {0}) Sound (label a) _ (IfOk-any (label a)) (λ l _ n. zero-reaches n)
operands_sound Zero a b c = IfOk-bind Known Sound (register a) _ (register_known a) (λ r h. IfOk-bind (λ _. Unit {0}) Sound (label b) _ (IfOk-any (label b)) (λ l _ n. and_from _ _ h (zero-reaches n)))
operands_sound Push a b c = one_register I.Push (λ n r h. h) a
operands_sound Pop a b c = one_register I.Pop (λ n r h. h) a
operands_sound Print a b c = one_register I.Print (λ n r h. h) a
operands_sound Call a b c = one_register I.Call (λ n r h. h) a
operands_sound Tail a b c = one_register I.Tail (λ n r h. h) a
operands_sound CallCc a b c = one_register I.CallCc (λ n r h. h) a
operands_sound CallOnce a b c = one_register I.CallOnce (λ n r h. h) a
operands_sound Forget a b c = one_register I.Forget (λ n r h. h) a
operands_sound DynamicWind a b c = three-registers I.DynamicWind (λ n x y z h k l. three _ _ _ h k l) a b c
operands_sound Return a b c = λ n. refl
operands_sound Stop a b c = λ n. refl

by_word-sound : (o : Option Mnemonic) (ws : List (List ℕ)) → IfOk (by_word o ws) Sound
by_word-sound None ws = tt
by_word-sound (Some m) ws = IfOk-cond Sound (eqb (length ws) (arity m + 1)) (with_operands m (word_at ws 1) (word_at ws 2) (word_at ws 3)) BadOperand (λ _. operands_sound m (word_at ws 1) (word_at ws 2) (word_at ws 3))

-- Lines.

abbrev Placed : ℕ → Label → Type 0
Placed n l = l.address.0 ≤ n

abbrev SoundDraft : Draft → Type 0
SoundDraft d = Sound d.unresolved

pub record Well (a : Assembly) : Type 0 where
  pub drafts : AllByRecursion SoundDraft a.drafts
  pub labels : AllByRecursion (Placed (length a.drafts)) a.labels

abbrev with_label : Assembly → LabelName → Assembly
with_label a n = record { labels = a.labels ++ (record { name = n; address = record { 0 = length a.drafts } } ∷ []); drafts = a.drafts }

defined_well : (a : Assembly) → Well a → (o : Option LabelName) → IfOk (defined a o) Well
defined_well a w None = tt
defined_well a w (Some n) =
    let well : Well (with_label a n) = record { drafts = w.drafts; labels = All-push (Placed (length a.drafts)) a.labels (record { name = n; address = record { 0 = length a.drafts } }) w.labels (omega arith) } in
    IfOk-cond Well _ (Ok (with_label a n)) BadLabel (λ _. well)

abbrev with_draft : Assembly → Draft → Assembly
with_draft a d = record { labels = a.labels; drafts = a.drafts ++ (d ∷ []) }

added_well : (a : Assembly) → Well a → (line : ℕ) (u : Unresolved) → Sound u → IfOk (added a line u) Well
added_well a w line u h =
    let d : Draft = record { unresolved = u; line = line } in
    let further : (l : Label) → Placed (length a.drafts) l → Placed (length (a.drafts ++ (d ∷ []))) l = λ l k. omega (arith, length_push a.drafts d) in
    let well : Well (with_draft a d) = record {
      drafts = All-push SoundDraft a.drafts d w.drafts h;
      labels = All-weaker (Placed (length a.drafts)) (Placed (length (a.drafts ++ (d ∷ [])))) further a.labels w.labels;
    } in
    IfOk-cond Well _ (Ok (with_draft a d)) TooManyInstructions (λ _. well)

kind_well : (a : Assembly) → Well a → (n : ℕ) (k : Kind) → IfOk (by_kind a n k) Well
kind_well a w n blank = w
kind_well a w n comment = w
kind_well a w n (label_kind name) = defined_well a w (label_name name)
kind_well a w n (instruction_kind text) =
    IfOk-bind Sound Well (instruction text) (added a n) (by_word-sound (mnemonic (word_at (words text) 0)) (words text)) (λ u h. added_well a w n u h)

line_well : (a : Assembly) → Well a → (n : ℕ) (line : List ℕ) → IfOk (line_taken a n line) Well
line_well a w n line = IfOk-cond Well (printable line) (by_kind a n (kind line)) _ (λ _. kind_well a w n (kind line))

refused_well : (n : ℕ) (r : Result Assembly Fault) (go_on : Assembly → Result Assembly SheetRefusal) → IfOk r Well → ((a : Assembly) → Well a → IfOk (go_on a) Well) → IfOk (or_refused n r go_on) Well
refused_well n (Ok a) go_on h k = k a h
refused_well n (Err f) go_on h k = tt

assembled_well : (a : Assembly) → Well a → (n : ℕ) (ls : List (List ℕ)) → IfOk (assembled a n ls) Well
assembled_well a w n [] = w
assembled_well a w n (l ∷ ls) = refused_well n (line_taken a n l) _ (line_well a w n l) (λ b v. assembled_well b v (n + 1) ls)

-- Labels.

target_placed : (n : ℕ) (ls : List Label) (name : LabelName) → AllByRecursion (Placed n) ls → IfSome (target ls name) (λ a. a.0 ≤ n)
target_placed n [] name h = tt
target_placed n (l ∷ ls) name h =
    cond_both (same l.name.letters name.letters) (Some l) (find (λ k. same k.name.letters name.letters) ls) (λ o. IfSome (option_map (λ k. k.address) o) (λ a. a.0 ≤ n))
    (λ _. h.0) (λ _. target_placed n ls name h.1)

aimed-fits : (n : ℕ) (i : Instruction) (a : Address) → fits n i ≡ true → a.0 ≤ n → fits n (aimed i a) ≡ true
aimed-fits n (I.Set r z) a h k = h
aimed-fits n (I.Proc r p) a h k = and_from _ _ (and_parts (is_register r) (reaches n p) h).0 (le-leb _ _ k)
aimed-fits n (I.Load r g) a h k = h
aimed-fits n (I.Store g r) a h k = h
aimed-fits n (I.Add d x y) a h k = h
aimed-fits n (I.Sub d x y) a h k = h
aimed-fits n (I.Less d x y) a h k = h
aimed-fits n (I.Jump p) a h k = le-leb _ _ k
aimed-fits n (I.Zero r p) a h k = and_from _ _ (and_parts (is_register r) (reaches n p) h).0 (le-leb _ _ k)
aimed-fits n (I.Push r) a h k = h
aimed-fits n (I.Pop r) a h k = h
aimed-fits n (I.Print r) a h k = h
aimed-fits n (I.Call r) a h k = h
aimed-fits n (I.Tail r) a h k = h
aimed-fits n (I.CallCc r) a h k = h
aimed-fits n (I.CallOnce r) a h k = h
aimed-fits n (I.Forget r) a h k = h
aimed-fits n (I.DynamicWind b m t) a h k = h
aimed-fits n I.Return a h k = refl
aimed-fits n I.Stop a h k = refl

abbrev FitsIn : ℕ → Instruction → Type 0
FitsIn n i = fits n i ≡ true

aimed_at-fits : (n : ℕ) (i : Instruction) (line : ℕ) (o : Option Address) → fits n i ≡ true → IfSome o (λ a. a.0 ≤ n) → IfOk (aimed_at i line o) (FitsIn n)
aimed_at-fits n i line (Some a) h k = aimed-fits n i a h k
aimed_at-fits n i line None h k = tt

resolved-fits : (n : ℕ) (ls : List Label) (i : Instruction) (line : ℕ) (o : Option LabelName) → fits n i ≡ true → AllByRecursion (Placed n) ls → IfOk (resolved_by ls i line o) (FitsIn n)
resolved-fits n ls i line None h k = h
resolved-fits n ls i line (Some name) h k = aimed_at-fits n i line (target ls name) h (target_placed n ls name k)

-- the code so far and the drafts still to come
all_resolved_fit : (n : ℕ) (is : List Instruction) (ls : List Label) (ds : List Draft)
    → AllByRecursion (FitsIn n) is → AllByRecursion (Placed n) ls → AllByRecursion SoundDraft ds → IfOk (resolved_onto is ls ds) (λ js. AllByRecursion (FitsIn n) js × (length js ≡ length is + length ds))
all_resolved_fit n is ls [] h k d = (h, omega arith)
all_resolved_fit n is ls (x ∷ xs) h k d =
    IfOk-bind (FitsIn n) _ (resolved ls x) _ (resolved-fits n ls x.unresolved.instruction x.line x.unresolved.label (d.0 n) k)
    (λ i f. grown i (all_resolved_fit n (is ++ (i ∷ [])) ls xs (All-push (FitsIn n) is i h f) k d.1))
  where
    grown : (i : Instruction) → IfOk (resolved_onto (is ++ (i ∷ [])) ls xs) (λ js. AllByRecursion (FitsIn n) js × (length js ≡ length (is ++ (i ∷ [])) + length xs))
        → IfOk (resolved_onto (is ++ (i ∷ [])) ls xs) (λ js. AllByRecursion (FitsIn n) js × (length js ≡ length is + length (x ∷ xs)))
    grown i p = IfOk-weaker (resolved_onto (is ++ (i ∷ [])) ls xs) _ _ (λ js q. (q.0, omega (arith, q.1, length_push is i))) p

fit_all : (n : ℕ) (is : List Instruction) → AllByRecursion (FitsIn n) is → all_fit n is ≡ true
fit_all n [] h = refl
fit_all n (i ∷ is) h = and_from _ _ h.0 (fit_all n is h.1)

-- what a well-made assembly gives is a code of its own length, in which all fits
pub code_fits : (a : Assembly) → Well a → (is : List Instruction) → resolved_onto [] a.labels a.drafts ≡ Ok is → (length is ≡ length a.drafts) × (all_fit (length is) is ≡ true)
code_fits a w is e =
    let n = length a.drafts in
    let p : AllByRecursion (FitsIn n) is × (length is ≡ 0 + n) = subst (λ r. IfOk r (λ js. AllByRecursion (FitsIn n) js × (length js ≡ 0 + n))) e (all_resolved_fit n [] a.labels a.drafts tt w.labels w.drafts) in
    let size : length is ≡ n = omega (arith, p.1) in
    (size, rw size (fit_all n is p.0))

pub empty_well : Well empty
empty_well = record { drafts = tt; labels = tt }

pub lines_well : (ls : List (List ℕ)) (a : Assembly) → assembled empty 1 ls ≡ Ok a → Well a
lines_well ls a e = subst (λ r. IfOk r Well) e (assembled_well empty empty_well 1 ls)

pub accepted-all : (is : List Instruction) → length is ≤ 256 → all_fit (length is) is ≡ true → accepted is ≡ Some is
accepted-all is few fit = let t : leb (length is) 256 ≡ true = le-leb _ _ few in rw (t, fit)
