-- `service_by` is `service_by`, digit by digit.
use mathlib.Core.Path.{refl}
use native.Mathlib.Omega.{arith}
use Rattle.levels.proofs.sent.service_by.Goals as goal

pub returns-in-RemoteAlarm : goal.returns-in-RemoteAlarm
returns-in-RemoteAlarm c = rw c.in-RemoteAlarm.is (refl, omega arith)

pub returns-in-FirstNational : goal.returns-in-FirstNational
returns-in-FirstNational c = rw c.in-FirstNational.is (refl, omega arith)

pub returns-in-SecondNational : goal.returns-in-SecondNational
returns-in-SecondNational c = rw c.in-SecondNational.is (refl, omega arith)

pub returns-in-ThirdNational : goal.returns-in-ThirdNational
returns-in-ThirdNational c = rw c.in-ThirdNational.is (refl, omega arith)
