use Rattle.std.proofs.Common.{refl, arith}
use Rattle.redis_model.specs.Desk.{TakesCall}
use Rattle.kv_tests.proofs.sessions.desk.FaultyDeskDesk.call.Goals as goal

pub returns-in-None-clause-call : goal.returns-in-None-clause-call
returns-in-None-clause-call c = record {
  history = λ opening seen h. absurd h;
  kept = λ failed h. tt;
  reason = (omega arith, λ h. absurd (omega arith));
  idle = λ opening seen h k. absurd h;
  planned = tt;
  fault = refl;
  met = refl;
  later = omega arith;
  readings = refl;
  last = refl;
  number = refl;
  pinned = refl;
}

pub returns-in-Some-IoError-clause-call : goal.returns-in-Some-IoError-clause-call
returns-in-Some-IoError-clause-call c = record {
  history = λ opening seen h. absurd h;
  kept = λ failed h. tt;
  reason = omega arith;
  idle = λ opening seen h k. absurd h;
  planned = tt;
  fault = refl;
  met = refl;
  later = omega arith;
  readings = refl;
  last = refl;
  number = refl;
  pinned = refl;
}

pub returns-in-Some-NoMem-clause-call : goal.returns-in-Some-NoMem-clause-call
returns-in-Some-NoMem-clause-call c = record {
  history = λ opening seen h. absurd h;
  kept = λ failed h. tt;
  reason = tt;
  idle = λ opening seen h k. absurd h;
  planned = tt;
  fault = refl;
  met = refl;
  later = omega arith;
  readings = refl;
  last = refl;
  number = refl;
  pinned = refl;
}

pub returns-in-Some-Damaged-clause-call : goal.returns-in-Some-Damaged-clause-call
returns-in-Some-Damaged-clause-call c = record {
  history = λ opening seen h. absurd h;
  kept = λ failed h. tt;
  reason = tt;
  idle = λ opening seen h k. absurd h;
  planned = tt;
  fault = refl;
  met = refl;
  later = omega arith;
  readings = refl;
  last = refl;
  number = refl;
  pinned = refl;
}

pub returns-in-Some-SeqFull-clause-call : goal.returns-in-Some-SeqFull-clause-call
returns-in-Some-SeqFull-clause-call c = record {
  history = λ opening seen h. absurd h;
  kept = λ failed h. tt;
  reason = (omega arith, refl);
  idle = λ opening seen h k. absurd h;
  planned = tt;
  fault = refl;
  met = refl;
  later = omega arith;
  readings = refl;
  last = refl;
  number = refl;
  pinned = refl;
}

pub returns-in-Some-TooBig-clause-call : goal.returns-in-Some-TooBig-clause-call
returns-in-Some-TooBig-clause-call c = record {
  history = λ opening seen h. absurd h;
  kept = λ failed h. tt;
  reason = (omega arith, λ h. omega arith);
  idle = λ opening seen h k. absurd h;
  planned = tt;
  fault = refl;
  met = refl;
  later = omega arith;
  readings = refl;
  last = refl;
  number = refl;
  pinned = refl;
}
