-- Every table that is built passes the table check, on bytes: for every sheet and every limit.
use Rattle.std.specs.Prelude.{ℕ, ◌≡◌, refl, Bool, true, false, List, [], leb, length, take, drop}
use Rattle.std.proofs.Common.{true≢false, arith, take_at, pow_mono}
use Rattle.std.proofs.Math.Nat.{lt_of_lt_of_le}
use Rattle.base.specs.Choice.{pick}
use Rattle.meaning.specs.Reader.{read, go_on, ◌>>=◌, ◌>>◌, give, unless, number_of}
use Rattle.meaning.specs.Sections.{Sheet, sheet}
use Rattle.meaning.specs.Building.{build}
use Rattle.meaning.specs.Written.{table_bytes}
use Rattle.meaning.specs.Calls.{judged, fair_table, table_number, Writing, refuses, writes, with_room, after, build_writing, build_answer}
use Rattle.meaning.specs.Given.{refusal, gives, built_given}
use Rattle.laws.specs.Readers.{judged-written}
use Rattle.laws.specs.Fairness.{build-fair}
use Rattle.laws.specs.EveryEntry.{EachPattern, build_steps, build-labels, build-nears, build-length, build-members}
use Rattle.laws.specs.RoundTrip.{sheet-read, SoundTable, table_again}
use Rattle.meaning.specs.declared.Refusal.TheVariants.{NoRoom}

module _ (s left : List ℕ) (sh : Sheet) (was_read : sheet s ≡ read sh left) (limit : ℕ) where
  -- its entries are few, their members fit, and their patterns are sound beside the sheet
  pub build-sound : SoundTable (length sh.labels) (build limit sh.patterns).entries
  unfolding EachPattern
  build-sound =
      let r = sheet-read s left sh was_read in
      record {
        few = omega (arith, build-length limit sh.patterns, r.few);
        each = λ e m. record {
          fits = lt_of_lt_of_le (build-members limit sh.patterns e m) (pow_mono r.few);
          sound = record {
            few = build_steps limit sh.patterns (λ p q. (r.sound p q).few) e m;
            within = build-labels (length sh.labels) limit sh.patterns (λ p q. (r.sound p q).within) e m;
            lone = build-nears limit sh.patterns (λ p q. (r.sound p q).lone) e m;
          };
        };
      }

  -- the bytes that are written for it read as it, and it is fair
  pub build-reads : fair_table sh (table_bytes (build limit sh.patterns).entries) ≡ read (build limit sh.patterns).entries []
  unfolding fair_table ◌>>=◌ ◌>>◌ go_on unless give
  build-reads = rw (table_again sh (build limit sh.patterns).entries build-sound, build-fair limit sh.patterns)

  pub build_passes : table_number s (table_bytes (build limit sh.patterns).entries) ≡ 0
  unfolding table_number judged number_of
  build_passes = rw (was_read, build-reads)

-- what a build says that it writes passes the check
writing_passes : (s : List ℕ) (limit rounds : ℕ) (bytes : List ℕ) → build_writing s limit ≡ writes rounds bytes → table_number s bytes ≡ 0
unfolding build_writing
writing_passes s limit rounds bytes h =
    let on = judged-written (sheet s) _ h in
    let same : table_bytes (build limit on.0.patterns).entries ≡ bytes = cc on.3 in
    rw same at (build_passes s on.1 on.0 on.2 limit)

-- and so do the bytes that the call leaves in its output, as many as it says, whenever it is not refused
pub output_passes : (s : List ℕ) (limit : ℕ) (out : List ℕ) → (let w = with_room out (build_writing s limit) in
    (built_given (build_answer w)).refused ≡ false → table_number s (take (built_given (build_answer w)).values.length (after out w)) ≡ 0)
unfolding with_room after build_answer built_given refusal gives pick
output_passes s limit out = go (build_writing s limit) refl
  where
    room : (rounds : ℕ) (bytes : List ℕ) → table_number s bytes ≡ 0 → (fits : Bool) → (let w = pick fits (writes rounds bytes) (refuses NoRoom) in
        (built_given (build_answer w)).refused ≡ false → table_number s (take (built_given (build_answer w)).values.length (after out w)) ≡ 0)
    room rounds bytes p true h = rw (take_at bytes (drop (length bytes) out) (length bytes) refl) p
    room rounds bytes p false h = absurd (true≢false h)

    go : (w : Writing ℕ) → build_writing s limit ≡ w → (built_given (build_answer (with_room out w))).refused ≡ false
        → table_number s (take (built_given (build_answer (with_room out w))).values.length (after out (with_room out w))) ≡ 0
    go (refuses n) e h = absurd (true≢false h)
    go (writes rounds bytes) e h = room rounds bytes (writing_passes s limit rounds bytes e) (leb (length bytes) (length out)) h
