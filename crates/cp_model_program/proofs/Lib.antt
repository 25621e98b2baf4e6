mod Beginnings
mod Environments
mod Found
mod Representing
mod NamesRepresent
mod Temps
mod Fits
pub mod StandardRepresent
pub mod CallsRepresent
mod PlaceExpressionsRepresent
mod TermsRepresent
mod InitRepresent
mod ResultRepresent
mod Room
mod TablesRepresent
mod CodeRepresents
mod NeedsWithin
mod UnitsRepresent
pub mod Pasting
mod PlansWrite
mod ArraysPlanned
mod PartsPlanned
mod PlansRepresent
mod PartsStart
mod StartsRepresent
mod ScopesRepresent
mod UnitNeeds
mod SoundPlans
mod SystemsRepresent
mod DefinitionsRepresent
mod RowsRepresent
mod UnitTexts
mod SortedComponents
mod TextsRepresent
pub mod KnownRepresent
mod FactsRepresent
mod OperationsRepresent
mod AssignmentsRepresent
mod ProceduresRepresent
pub mod Example
mod Negatives
mod ParametersCounted
