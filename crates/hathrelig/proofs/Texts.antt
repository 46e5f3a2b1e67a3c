-- The texts of exchanges are the texts of the answers that stand in them.
use Rattle.std.proofs.Common.{◌≡◌, ℕ, List, [], ◌∷◌, ◌++◌, Some, None, Option, Ok, Err, Result, OnOk, refl, ap, subst, append_assoc, ◌∙◌}
use Rattle.std.proofs.KnownBytes.{Appends-trans}
use Rattle.std.specs.Io.KnownBytes.{Appends}
use Rattle.std.specs.List.{flat_map}
use Rattle.machine.specs.Calls.{Answer}
use Rattle.run.specs.declared.exchange.Exchange.{Exchange}
use Rattle.run.specs.Serving.{answer_in, with_first, answers_in}
use Rattle.hathrelig.specs.Report.{answer_text, text_if, exchange_text, run_text}

-- an answer before others, if there is one
pub first_text : (a : Option Answer) (rest : List Answer) → flat_map answer_text (with_first a rest) ≡ text_if a ++ flat_map answer_text rest
first_text None rest = refl
first_text (Some a) rest = refl

pub texts : (es : List Exchange) → flat_map answer_text (answers_in es) ≡ flat_map exchange_text es
texts [] = refl
texts (e ∷ es) = first_text (answer_in e) (answers_in es) ∙ ap (λ rest. exchange_text e ++ rest) (texts es)

-- what follows of a success
pub on_ok : {T E P Q : Type 0} → (r : Result T E) → (P → Q) → OnOk r P → OnOk r Q
on_ok (Ok x) f p = f p
on_ok (Err e) f p = p

-- a name in a line, and then the texts of exchanges
pub named_texts : (a b c : Option (List ℕ)) (name : List ℕ) (es : List Exchange) → Appends a b (name ++ (10 ∷ []))
    → Appends b c (flat_map exchange_text es) → Appends a c (run_text name (answers_in es))
named_texts a b c name es line rest =
    rw (texts es) (subst (Appends a c) (append_assoc name (10 ∷ []) (flat_map exchange_text es)) (Appends-trans a b c _ _ line rest))
