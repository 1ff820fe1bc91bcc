-- The promises determine what the benchmark is given: any two results that they allow are equal, and so are any two outputs.
use Rattle.std.specs.Prelude.{ℕ, ◌≡◌, List}
use Rattle.meaning.specs.Given.{by_number, LineValues}
use Rattle.meaning.specs.Promises.{CoversGives, MergeGives, BuildGives, ReadLineGives, WritePatternGives, WriteSubscriptionGives}
use Rattle.meaning.proofs.Sharp.{only_one, by_number_tells}
use Rattle.hub_bench.specs.declared.Covering.{Covering}
use Rattle.hub_bench.specs.declared.Merging.{Merging}
use Rattle.hub_bench.specs.declared.Building.{Building}
use Rattle.hub_bench.specs.declared.LineReading.{LineReading}
use Rattle.hub_bench.specs.declared.LineWriting.{LineWriting}
use Rattle.meaning.specs.declared.Merged.{Merged}
use Rattle.meaning.specs.declared.Built.{Built}

-- the length and the mark, the length and the rounds, the place and the length
abbrev merged : Merging → Merged
merged x = record { length = x.length; clipped = x.clipped }

abbrev built : Building → Built
built x = record { length = x.length; rounds = x.rounds }

abbrev line_read : LineReading → LineValues
line_read x = record { place = x.place; length = x.length }

module _ (s : List ℕ) where
  pub covers_sharp : (i j : ℕ) (x y : Covering) → CoversGives s i j (by_number x.number x.said)
      → CoversGives s i j (by_number y.number y.said) → x ≡ y
  covers_sharp i j x y e f =
      let same = by_number_tells x.number y.number x.said y.said (only_one e f) in
      λ k. record { number = same.0 k; said = same.1 k }

  pub merge_sharp : (i j : ℕ) (out : List ℕ) (x y : Merging) (u v : List ℕ)
      → MergeGives s i j out (by_number x.number (merged x)) u → MergeGives s i j out (by_number y.number (merged y)) v → (x ≡ y) × (u ≡ v)
  merge_sharp i j out x y u v e f =
      let same = by_number_tells x.number y.number (merged x) (merged y) (only_one e.answer f.answer) in
      (λ k. record { number = same.0 k; clipped = (same.1 k).clipped; length = (same.1 k).length }, only_one e.output f.output)

  pub build_sharp : (limit : ℕ) (out : List ℕ) (x y : Building) (u v : List ℕ)
      → BuildGives s limit out (by_number x.number (built x)) u → BuildGives s limit out (by_number y.number (built y)) v → (x ≡ y) × (u ≡ v)
  build_sharp limit out x y u v e f =
      let same = by_number_tells x.number y.number (built x) (built y) (only_one e.answer f.answer) in
      (λ k. record { number = same.0 k; rounds = (same.1 k).rounds; length = (same.1 k).length }, only_one e.output f.output)

  pub read_line_sharp : (line out : List ℕ) (x y : LineReading) (u v : List ℕ)
      → ReadLineGives s line out (by_number x.number (line_read x)) u → ReadLineGives s line out (by_number y.number (line_read y)) v
      → (x ≡ y) × (u ≡ v)
  read_line_sharp line out x y u v e f =
      let same = by_number_tells x.number y.number (line_read x) (line_read y) (only_one e.answer f.answer) in
      (λ k. record { number = same.0 k; place = (same.1 k).place; length = (same.1 k).length }, only_one e.output f.output)

  pub write_pattern_sharp : (p out : List ℕ) (x y : LineWriting) (u v : List ℕ)
      → WritePatternGives s p out (by_number x.number x.length) u → WritePatternGives s p out (by_number y.number y.length) v
      → (x ≡ y) × (u ≡ v)
  write_pattern_sharp p out x y u v e f =
      let same = by_number_tells x.number y.number x.length y.length (only_one e.answer f.answer) in
      (λ k. record { number = same.0 k; length = same.1 k }, only_one e.output f.output)

  pub write_subscription_sharp : (i : ℕ) (out : List ℕ) (x y : LineWriting) (u v : List ℕ)
      → WriteSubscriptionGives s i out (by_number x.number x.length) u
      → WriteSubscriptionGives s i out (by_number y.number y.length) v → (x ≡ y) × (u ≡ v)
  write_subscription_sharp i out x y u v e f =
      let same = by_number_tells x.number y.number x.length y.length (only_one e.answer f.answer) in
      (λ k. record { number = same.0 k; length = same.1 k }, only_one e.output f.output)
