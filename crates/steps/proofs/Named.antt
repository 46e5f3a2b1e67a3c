-- The row that is found of a name has it.
use Rattle.std.proofs.Common.{◌≡◌, ℕ, List, [], ◌∷◌, Some, None, Option, IfOk, sym, ap, arith}
use Rattle.std.specs.Option.{ok_or}
use Rattle.std.proofs.lemmas.Bool.{eqb-true}
use Rattle.cell.specs.Elements.{name_of}
use Rattle.cell.specs.declared.name.Name.{Name}
use Rattle.machine.specs.declared.end.End.{End}
use Rattle.machine.specs.Named.{find}
use Rattle.held.specs.declared.held_row.HeldRow.{HeldRow}
use Rattle.held.specs.Rows.{row_name}

found : (rows : List HeldRow) (n : ℕ) (row : HeldRow) → find row_name rows n ≡ Some row → row.name.0 ≡ n
found [] n row e = cc
found (r ∷ rs) n row e = grind (arith, found rs n row, eqb-true)

pub named : (rows : List HeldRow) (n : Name) (o : Option HeldRow) (e : End) → o ≡ find row_name rows n.0 → IfOk (ok_or o e) (λ row. row.name ≡ n)
named rows n None e h = tt
named rows n (Some row) e h = ap name_of (found rows n.0 row (sym h))
