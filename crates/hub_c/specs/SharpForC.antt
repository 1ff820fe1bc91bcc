-- The promises determine what the print server is given: any two answers that they allow are equal. (That of the sheet check is
-- a number alone: `sheet_check_sharp` of `meaning`.)
use Rattle.std.specs.Prelude.{ℕ, ◌≡◌, List}
use Rattle.meaning.specs.Given.{by_number}
use Rattle.meaning.specs.Promises.{PlainRouteGives, TableRouteGives, WantedGives}
use Rattle.meaning.proofs.Sharp.{only_one, by_number_tells}
use Rattle.hub_c.specs.declared.PlainRoute.{PlainRoute}
use Rattle.hub_c.specs.declared.TableRoute.{TableRoute}
use Rattle.hub_c.specs.declared.Wanted.{Wanted}
use Rattle.meaning.specs.declared.Tabled.{Tabled}

-- the set and the tries
abbrev routed : TableRoute → Tabled
routed x = record { set = x.delivered; tried = x.tried }

module _ (s d : List ℕ) where
  pub plain_route_sharp : (x y : PlainRoute) → PlainRouteGives s d (by_number x.number x.delivered)
      → PlainRouteGives s d (by_number y.number y.delivered) → x ≡ y
  plain_route_sharp x y e f =
      let same = by_number_tells x.number y.number x.delivered y.delivered (only_one e f) in
      λ i. record { number = same.0 i; delivered = same.1 i }

  pub table_route_sharp : (t : List ℕ) (x y : TableRoute) → TableRouteGives s t d (by_number x.number (routed x))
      → TableRouteGives s t d (by_number y.number (routed y)) → x ≡ y
  table_route_sharp t x y e f =
      let same = by_number_tells x.number y.number (routed x) (routed y) (only_one e f) in
      λ i. record { number = same.0 i; delivered = (same.1 i).set; tried = (same.1 i).tried }

  pub wanted_sharp : (t : List ℕ) (x y : Wanted) → WantedGives s t d (by_number x.number x.wanted)
      → WantedGives s t d (by_number y.number y.wanted) → x ≡ y
  wanted_sharp t x y e f =
      let same = by_number_tells x.number y.number x.wanted y.wanted (only_one e f) in
      λ i. record { number = same.0 i; wanted = same.1 i }
