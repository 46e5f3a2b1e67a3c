-- The answers that stand in a list after it was carried out are those of the machine's definition.
use Rattle.std.proofs.Common.{◌≡◌, ℕ, Vec, List, [], ◌∷◌, map, drop, Some, length, refl, ap, ◌∙◌}
use Rattle.std.proofs.Math.Seq.{take-append_seam}
use Rattle.std.specs.Vec.{with_items}
use Rattle.machine.specs.Opening.{Run}
use Rattle.machine.specs.Calls.{to_run, ran, answered, answer_first, served}
use Rattle.laws.proofs.Served.{buffers_kept}
use Rattle.run.specs.declared.exchange.Exchange.{Exchange}
use Rattle.run.specs.declared.exchange.Exchange.TheVariants.{Run as ToRun, Tally as ToTally, Look as ToLook, Force as ToForce}
use Rattle.run.specs.Serving.{asked, answer_in, with_first, answers_in, exchanged, serving}

-- as many bytes as there were
all_items : {Z : Type 0} (v : Vec ℕ Z) (bytes : List ℕ) → length bytes ≡ length v.items → (with_items v bytes).items ≡ bytes
all_items v bytes h = rw (v.ok.0, ← h) (take-append_seam bytes (drop (length bytes) v.items))

-- the answer that is put into an exchange, and the run after it
answered_as : (r : Run) (e : Exchange) → answer_in (exchanged r e).0 ≡ Some (answered r (asked e)).0
answered_as r (ToRun budget buffer answer) =
    ap (λ bytes. Some (to_run (ran r budget buffer.items).0 bytes)) (all_items buffer _ (buffers_kept r budget buffer.items).size)
answered_as r (ToTally answer) = refl
answered_as r (ToLook index answer) = refl
answered_as r (ToForce index answer) = refl

left_as : (r : Run) (e : Exchange) → (exchanged r e).1 ≡ (answered r (asked e)).1
left_as r (ToRun budget buffer answer) = refl
left_as r (ToTally answer) = refl
left_as r (ToLook index answer) = refl
left_as r (ToForce index answer) = refl

served_as : (r : Run) (es : List Exchange) → (answers_in (serving r es).0, (serving r es).1) ≡ served r (map asked es)
served_as r [] = refl
served_as r (e ∷ es) =
    let rest = served_as (exchanged r e).1 es in
    ap (λ x. (with_first x (answers_in (serving (exchanged r e).1 es).0), (serving (exchanged r e).1 es).1)) (answered_as r e)
    ∙ ap (answer_first (answered r (asked e)).0) (rest ∙ ap (λ q. served q (map asked es)) (left_as r e))

pub answers_as : (r : Run) (es : List Exchange) (x : List Exchange × Run) → x ≡ serving r es → (answers_in x.0, x.1) ≡ served r (map asked es)
answers_as r es x is = ap (λ y. (answers_in y.0, y.1)) is ∙ served_as r es
