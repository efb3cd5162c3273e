-- What a contract sees of `Stacks`: the stacks, as rows, and the nodes' loads.
use Rattle.std.specs.Prelude.{List, refl}
use Rattle.std.specs.Coded.{Coded, code_by, coded×, coded_list}
use Rattle.strm_links.specs.Rows.{Rows, rows_code}

-- these rows, and the load of each node
pub record LoadedRows (L : Type 0) : Type 0 where
  pub rows : Rows
  pub loads : List L

-- how they are stored: as the pair of their fields
abbrev pub loaded_rows_code : {L : Type 0} → Coded L → Coded (LoadedRows L)
loaded_rows_code {L = L} loads =
    code_by
    (Rows × List L)
    (coded× rows_code (coded_list loads))
    (λ v. (v.rows, v.loads))
    (λ p. record { rows = p.0; loads = p.1 })
    (λ _. refl)
