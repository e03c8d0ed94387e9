-- The laws of jobs counted in batches.
use Rattle.std.specs.Prelude.{◌≡◌, ℕ, ◌+◌, ◌-◌, ◌*◌, ◌≤◌, false, refl}
use Rattle.std.proofs.Math.Nat.{eq_of_mul-eq-mul_left}
use Rattle.std.proofs.Common.{arith}
use Rattle.std.proofs.lemmas.Nat.{mul-le}
use Rattle.rows.specs.declared.tasks.Row.{Row}
use Rattle.rows.specs.Times.{horizon}
use Rattle.rows.specs.Counting.{steps, is_rise}
use Rattle.rows.proofs.Ceiling.{ceiling_grows}
use Rattle.bounds.specs.Laws.{Laws}
use Rattle.bounds.specs.Meaning.{finest}
use Rattle.bounds.specs.Lemmas.Instants.{count_le}
use Rattle.rows.proofs.Rising.{steps_stay}
use Rattle.batches.specs.declared.Batches.{Batches}
use Rattle.batches.specs.Batching.{Parameters, batch_count, job_count, batches}
use Rattle.batches.specs.Making.{parameters_of}
use Rattle.batches.specs.Lemmas.JobsCounted.{count_covers, count_close, count_grows}

-- the jobs of a row never become fewer
jobs_grow : (r : Row) (s t : ℕ) → s ≤ t → job_count r s ≤ job_count r t
jobs_grow r s t order = ceiling_grows (s + r.jitter) (t + r.jitter) r.period (omega arith) (omega arith)

-- where exact steps do not rise, there are as many jobs an instant later
jobs_stay : (r : Row) (t : ℕ) → 1 ≤ t → is_rise r t ≡ false → job_count r (t + 1) ≡ job_count r t
jobs_stay r t late level = eq_of_mul-eq-mul_left r.work r.busy _ _ (steps_stay r t late level)

-- more jobs have no fewer parts
parts_grow : (h w m n : ℕ) → m ≤ n → h * (w * m) ≤ h * (w * n)
parts_grow h w m n order = mul-le h _ h _ (omega arith) (mul-le w m w n (omega arith) order)

module _ (p : Parameters) (some : 1 ≤ p.size) (h : ℕ) (r : Row) where
  -- the amount by batches
  abbrev amount : ℕ → ℕ
  amount = (batches p).amount h r

  -- the amount is at most (k + 1) / k times the exact steps, since the jobs are
  amount_close : (t : ℕ) → p.accuracy * amount t ≤ (p.accuracy + 1) * (h * steps r t)
  amount_close t =
      omega (
        arith,
        parts_grow h r.work (p.accuracy * batch_count p (job_count r t)) ((p.accuracy + 1) * job_count r t)
            (count_close p some (job_count r t)),
      )

  -- the amount bends upward only where exact steps rise
  amount_bends : (t : ℕ) → 1 ≤ t → is_rise r t ≡ false → amount (t - 1) + amount (t + 1) ≤ 2 * amount t
  amount_bends t late level =
      let before = parts_grow h r.work _ _
      (count_grows p some (job_count r (t - 1)) (job_count r t) (jobs_grow r (t - 1) t (omega arith))) in
      rw (jobs_stay r t late level) (omega arith)

-- jobs counted in batches keep every law of a bound
pub batch_laws : (p : Parameters) → 1 ≤ p.accuracy → p.accuracy ≤ finest → 1 ≤ p.size → Laws (batches p)
batch_laws p low high some =
    record {
      covers = λ h r t ask. parts_grow h r.work _ _ (count_covers p some (job_count r t));
      close = λ h r t ask. amount_close p some h r t;
      some_accuracy = low;
      most_accuracy = high;
      bends = λ h r t ask late before level. amount_bends p some h r t late level;
      starts = λ r. refl;
      few = λ r. count_le (is_rise r) horizon;
    }

-- every bound by batches that is made shows the laws, since its numbers are in range
pub batches_laws : (b : Batches) → Laws (batches (parameters_of b))
batches_laws b = batch_laws (parameters_of b) b.low b.high b.some
