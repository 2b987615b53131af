use Rattle.ocp_assured.proofs.Faults.{never_in_flight, never_in_journals}
use Rattle.ocp_assured.proofs.laws.images_that_never_fault_do_not_in_flight.Goals as goal

pub returns-clause-events : goal.returns-clause-events
returns-clause-events c = never_in_flight c.own_events_are_those_of_the_image.ensures.image c.machines_in_flight_are_reached.ensures c.the_machine_faults_by_its_image.ensures.fault c.the_machine_faults_by_its_image.ensures.answer

pub returns-clause-journal : goal.returns-clause-journal
returns-clause-journal c = never_in_journals c.own_events_are_those_of_the_image.ensures.image c.machines_in_flight_are_reached.ensures c.the_machine_faults_by_its_image.ensures.fault c.the_machine_faults_by_its_image.ensures.answer
