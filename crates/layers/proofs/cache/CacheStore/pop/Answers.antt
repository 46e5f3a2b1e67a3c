use Rattle.std.proofs.Common.{[], ◌∷◌, ◌++◌, sym, ap, ◌∙◌, append_assoc}
use Rattle.layers.specs.Layers.{topped}
use Rattle.store.proofs.Popping.{popped_push}
use Rattle.layers.proofs.cache.CacheStore.pop.Goals as goal

pub returns-in-Some-clause-call : goal.returns-in-Some-clause-call
returns-in-Some-clause-call g c =
    let below = g.S.Store.meaning c.args.self.now.below in
    let cell = c.in-Some.cell in
    sym (popped_push (topped c.args.self.now.cells.items below) (below.current ++ c.pop.new.self.items) cell
    (ap (λ cs. below.current ++ cs) c.in-Some.ensures.items ∙ sym (append_assoc below.current c.pop.new.self.items (cell ∷ []))))
